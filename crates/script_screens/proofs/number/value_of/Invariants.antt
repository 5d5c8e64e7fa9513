use Rattle.std.proofs.Common.{◌≡◌, drop}
use Rattle.script_screens.specs.Numbers.{value_from}
use Rattle.script_screens.proofs.number.value_of.Given as goal

abbrev pub invariant-loop-byte : goal.invariant-loop-byte
invariant-loop-byte l = value_from l.value (drop l.byte-index l.bytes) ≡ value_from 0 l.bytes
