use Rattle.std.proofs.Common.{◌≡◌, ℕ, ◌<◌, false}
use Rattle.std.specs.Prelude.{not}
use Rattle.ds_screen.specs.Fields.{is_character}
use Rattle.cli_pictures.specs.Codes.{cell_on}
use Rattle.cli_pictures.proofs.marks.run_length.Given as goal

abbrev pub invariant-loop-count : goal.invariant-loop-count
invariant-loop-count l = (d : ℕ) → d < l.count → not (is_character (cell_on l.screen.cells l.p d)) ≡ false
