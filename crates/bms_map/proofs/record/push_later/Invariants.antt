use Rattle.std.proofs.Common.{◌≡◌, drop}
use Rattle.std.specs.List.{flat_map}
use Rattle.order_lines.specs.Draft.{with_orders}
use Rattle.bms_map.specs.Record.{later_orders}
use Rattle.bms_map.proofs.record.push_later.Given as goal

abbrev pub invariant-loop-later : goal.invariant-loop-later
invariant-loop-later l = with_orders l.draft (flat_map later_orders (drop l.later-index l.all)) ≡ with_orders l.fn.draft (flat_map later_orders l.fn.all)
