use Rattle.std.proofs.Common.{◌≡◌, ◌+◌, length}
use Rattle.std.specs.Prelude.{IsOk}
use Rattle.ds_codec.specs.Reading.{orders_from, sites_in, refusal_in}
use Rattle.ds_codec.specs.Surely.{IsNeedBefore}
use Rattle.ds_codec.proofs.record.check_orders.Given as goal

abbrev pub invariant-loop-rest : goal.invariant-loop-rest
invariant-loop-rest l =
    record {
      same : refusal_in (orders_from l.mode 0 l.at l.rest) ≡ refusal_in (orders_from l.mode 0 2 l.bytes);
      placed : l.at + length l.rest ≡ 2 + length l.bytes;
      needs : IsOk (orders_from l.mode 0 2 l.bytes)
          → IsNeedBefore l.need (sites_in (orders_from l.mode 0 l.at l.rest)) (sites_in (orders_from l.mode 0 2 l.bytes));
    }

abbrev pub decreases-loop-rest : goal.decreases-loop-rest
decreases-loop-rest l = length l.rest
