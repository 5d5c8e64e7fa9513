-- Findings that are some are listed.
use Rattle.std.proofs.Common.{◌≡◌, ℕ, List, [], ◌∷◌, refl}
use Rattle.std.specs.List.{flat_map}
use Rattle.scr_check.specs.declared.finding.Finding.{Finding}
use Rattle.cli_commands.specs.declared.status.Status.TheVariants.{Findings}
use Rattle.cli_commands.specs.Printed.{printed}
use Rattle.cli_commands.specs.Check.{printed_verdict}

pub some_findings : (lines : Finding → List ℕ) (findings : List Finding) → (findings ≡ [] → ⊥)
    → printed_verdict lines findings ≡ printed (flat_map lines findings) Findings
some_findings lines [] some = absurd (some refl)
some_findings lines (finding ∷ findings) some = refl
