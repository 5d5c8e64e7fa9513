use Rattle.std.proofs.Common.{◌≡◌, ◌-◌, ◌≤◌}
use Rattle.scr_layout.specs.Rows.{are_free}
use Rattle.scr_layout.proofs.rows.are_free.Given as goal

-- the places that are left give what all give
abbrev pub invariant-loop-row : goal.invariant-loop-row
invariant-loop-row l = record {
  left : are_free l.size l.before l.step l.place (l.count - l._row) ≡ are_free l.fn.size l.fn.before l.fn.step l.fn.first l.fn.count;
  within : l._row ≤ l.fn.count;
}
