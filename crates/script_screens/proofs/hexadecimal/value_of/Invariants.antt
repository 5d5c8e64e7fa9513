use Rattle.std.proofs.Common.{◌≡◌, drop}
use Rattle.script_screens.specs.Pieces.{hex_value}
use Rattle.script_screens.proofs.hexadecimal.value_of.Given as goal

abbrev pub invariant-loop-byte : goal.invariant-loop-byte
invariant-loop-byte l = hex_value l.value (drop l.byte-index l.digits) ≡ hex_value 0 l.digits
