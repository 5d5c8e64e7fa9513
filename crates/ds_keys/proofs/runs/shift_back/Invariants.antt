use Rattle.std.proofs.Common.{◌≡◌, ◌-◌, length}
use Rattle.ds_screen.specs.Picture.{ruled}
use Rattle.ds_keys.specs.Kept.{so_far, moved_back}
use Rattle.ds_keys.proofs.RunLaws.{with_cells}
use Rattle.ds_keys.proofs.runs.shift_back.Given as goal

abbrev pub invariant-places : goal.invariant-places
invariant-places g l =
    let cells = l.fn.screen.cells in
    l.screen ≡ with_cells l.fn.screen (ruled (length cells) (so_far cells l.from (l.p - l.from) (moved_back cells l.end)))
