use Rattle.std.proofs.Common.{◌≡◌, ℕ, ◌+◌, ◌<◌, false}
use Rattle.std.specs.Prelude.{not}
use Rattle.ds_screen.specs.Fields.{is_open}
use Rattle.cli_pictures.proofs.seen.open_length.Given as goal

abbrev pub invariant-loop-count : goal.invariant-loop-count
invariant-loop-count l = (d : ℕ) → d < l.count → not (is_open l.screen.cells (l.p + d)) ≡ false
