use Rattle.std.proofs.Common.{◌≡◌, length}
use Rattle.bms_map.specs.Texts.{codes_in}
use Rattle.bms_map.proofs.TextLaws.{behind}
use Rattle.bms_map.proofs.text.codes_in.Given as goal

abbrev pub invariant-loop-rest : goal.invariant-loop-rest
invariant-loop-rest l = behind l.codes.items (codes_in l.rest) ≡ codes_in l.inner

abbrev pub decreases-loop-rest : goal.decreases-loop-rest
decreases-loop-rest l = length l.rest
