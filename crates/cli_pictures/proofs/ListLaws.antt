-- A drawing by the lines of its list.
use Rattle.std.proofs.Common.{◌≡◌, ℕ, List, refl}
use Rattle.ds_screen.specs.Picture.{Picture}
use Rattle.scr_layout.specs.Entry.{Declared}
use Rattle.scr_check.specs.declared.finding.Finding.{Finding}
use Rattle.cli_pictures.specs.Annotated.{listed_svg, annotated_svg}
use Rattle.cli_pictures.specs.Notes.{names_listed, findings_listed}

pub same_list : (entries : List Declared) (findings : List Finding) (v : Picture) (names words : List (List ℕ)) → names ≡ names_listed v entries 1 entries
    → words ≡ findings_listed entries 1 findings → listed_svg entries findings v names words ≡ annotated_svg entries findings v
unfolding annotated_svg
same_list entries findings v names words one other = rw (one, other) refl
