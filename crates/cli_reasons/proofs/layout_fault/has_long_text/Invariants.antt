use Rattle.std.proofs.Common.{◌≡◌, length}
use Rattle.cli_reasons.specs.LayoutFault.{has_long_text}
use Rattle.cli_reasons.proofs.layout_fault.has_long_text.Given as goal

abbrev pub invariant-loop-rest : goal.invariant-loop-rest
invariant-loop-rest l = has_long_text l.rest ≡ has_long_text l.text

abbrev pub decreases-loop-rest : goal.decreases-loop-rest
decreases-loop-rest l = length l.rest
