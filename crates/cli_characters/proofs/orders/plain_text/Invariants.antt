use Rattle.std.proofs.Common.{◌≡◌, ◌++◌, length}
use Rattle.cli_characters.specs.Orders.{plain_text}
use Rattle.cli_characters.proofs.orders.plain_text.Given as goal

-- the lines that were written, and those that are left
abbrev pub invariant-loop-line : goal.invariant-loop-line
invariant-loop-line l = l.out.items ++ plain_text l.rest ≡ plain_text l.fn.text

abbrev pub decreases-loop-line : goal.decreases-loop-line
decreases-loop-line l = length l.rest
