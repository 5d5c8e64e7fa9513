use Rattle.std.proofs.Common.{◌≡◌, ℕ, ◌<◌, false}
use Rattle.script_keys.specs.Fill.{is_used_at}
use Rattle.script_keys.proofs.fill.is_empty_row.Given as goal

abbrev pub invariant-places : goal.invariant-places
invariant-places g l = (d : ℕ) → d < l.d → is_used_at l.screen.cells l.end d ≡ false
