use Rattle.std.proofs.Common.{◌≡◌, ℕ, ◌+◌, ◌<◌, false}
use Rattle.std.specs.Prelude.{not}
use Rattle.cli_pictures.specs.Room.{is_bare}
use Rattle.cli_pictures.proofs.room.bare_length.Given as goal

abbrev pub invariant-loop-count : goal.invariant-loop-count
invariant-loop-count l = (d : ℕ) → d < l.count → not (is_bare l.screen.cells (l.p + d)) ≡ false
