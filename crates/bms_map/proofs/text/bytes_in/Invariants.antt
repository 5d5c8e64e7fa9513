use Rattle.std.proofs.Common.{◌≡◌, length}
use Rattle.bms_map.specs.Texts.{bytes_in}
use Rattle.bms_map.proofs.TextLaws.{behind}
use Rattle.bms_map.proofs.text.bytes_in.Given as goal

abbrev pub invariant-loop-rest : goal.invariant-loop-rest
invariant-loop-rest l = behind l.codes.items (bytes_in l.rest) ≡ bytes_in l.value

abbrev pub decreases-loop-rest : goal.decreases-loop-rest
decreases-loop-rest l = length l.rest
