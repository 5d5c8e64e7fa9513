-- What is found of records that are lent.
use Rattle.std.proofs.Common.{◌≡◌, ℕ, List, map, refl}
use Rattle.scr_layout.specs.Layout.{Declaration}
use Rattle.scr_check.specs.declared.finding.Finding.{Finding}
use Rattle.scr_check.specs.Traced.{traced_of}
use Rattle.cli_findings.specs.declared.found.Pen.{Pen}
use Rattle.cli_findings.specs.Lines.{answer_for, found_in}

-- the same records have the same findings, each with the same orders
pub same_found : (pen : Pen) (layout : Declaration) (lent held : List (List ℕ)) (findings : List Finding) → lent ≡ held → findings ≡ answer_for pen layout lent
    → map (traced_of layout lent) findings ≡ found_in pen layout held
same_found pen layout lent held findings same listed = rw (listed, same) refl
