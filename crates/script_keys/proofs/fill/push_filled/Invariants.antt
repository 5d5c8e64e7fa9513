use Rattle.std.proofs.Common.{◌≡◌, ◌++◌}
use Rattle.script_keys.specs.Fill.{filled_from}
use Rattle.script_keys.proofs.fill.push_filled.Given as goal

abbrev pub invariant-places : goal.invariant-places
invariant-places g l = l.runs.items ≡ l.fn.runs.items ++ filled_from l.screen.cells l.start l.d
