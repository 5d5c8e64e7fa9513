use Rattle.std.proofs.Common.{◌≡◌}
use Rattle.scr_check.specs.Walk.{start_at_cursor}
use Rattle.scr_check.proofs.later.start_at_cursor.Given as goal

abbrev pub invariant-loop-placed : goal.invariant-loop-placed
invariant-loop-placed l = start_at_cursor l.placed-iterator ≡ start_at_cursor l.outbound.orders
