use Rattle.std.proofs.Common.{◌≡◌, ◌<◌, length}
use Rattle.script_keys.specs.Numbers.{value_from}
use Rattle.script_keys.proofs.number.value_of.Given as goal

abbrev pub invariant-digits : goal.invariant-digits
invariant-digits l = record { value : value_from l.value l.rest ≡ value_from 0 l.bytes; small : l.value < 1000000 }

abbrev pub decreases-digits : goal.decreases-digits
decreases-digits l = length l.rest
