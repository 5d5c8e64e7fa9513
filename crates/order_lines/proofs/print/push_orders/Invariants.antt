use Rattle.std.proofs.Common.{◌≡◌, ◌++◌}
use Rattle.std.specs.String.{string_bytes}
use Rattle.std.specs.List.{flat_map}
use Rattle.order_lines.specs.Print.{order_line}
use Rattle.order_lines.proofs.print.push_orders.Given as goal

abbrev pub invariant-loop-placed : goal.invariant-loop-placed
invariant-loop-placed l = string_bytes l.out ++ flat_map order_line l.placed-iterator ≡ string_bytes l.fn.out ++ flat_map order_line l.message.orders
