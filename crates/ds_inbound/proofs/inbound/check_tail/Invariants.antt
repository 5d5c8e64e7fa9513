use Rattle.std.proofs.Common.{◌≡◌, ◌+◌, length}
use Rattle.ds_codec.specs.Reading.{refusal_in}
use Rattle.ds_inbound.specs.Reading.{tail_from}
use Rattle.ds_inbound.proofs.inbound.check_tail.Given as goal

abbrev pub invariant-items : goal.invariant-items
invariant-items l =
    record {
      same : refusal_in (tail_from l.mode l.cells 0 l.at l.rest) ≡ refusal_in (tail_from l.mode l.cells 0 3 l.body);
      place : l.at + length l.rest ≡ 3 + length l.body;
    }

abbrev pub decreases-items : goal.decreases-items
decreases-items l = length l.rest
