use Rattle.std.proofs.Common.{◌≡◌, ◌+◌, length}
use Rattle.std.specs.Prelude.{nat_lt}
use Rattle.bms_map.specs.Entries.{size_of}
use Rattle.bms_map.specs.declared.macros.TheConstants.{MOST_BYTES}
use Rattle.bms_map.proofs.macros.is_too_much.Given as goal

abbrev pub invariant-loop-rest : goal.invariant-loop-rest
invariant-loop-rest l = nat_lt l.left (size_of l.rest + l.more) ≡ nat_lt MOST_BYTES (size_of l.entries + l.more)

abbrev pub decreases-loop-rest : goal.decreases-loop-rest
decreases-loop-rest l = length l.rest
