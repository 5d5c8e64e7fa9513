-- The laws on pairs of our own two ends.
use Rattle.std.proofs.Common.{◌≡◌, Bool, true, false, List, refl, lit≤}
use Rattle.ds_codec.specs.Geometry.{Sizes}
use Rattle.tn_cores.specs.declared.device.Device.{Device}
use Rattle.tn_cores.specs.Pair.{strict, Ends, PairsAgree, PairsSettle, PairsEnd, IsSettled}
use Rattle.tn_cores.proofs.PairReach.{Begins, holds_of, ends_of}
use Rattle.tn_cores.proofs.PairStages.{Stage, state, rank, next, holds, e0, x0, k0}

abbrev BeginsAt : Ends → Type 0
BeginsAt made = Begins strict (Stage made.device made.sizes) (state made.device made.sizes) (λ t. rank t) made

begin_at : (d : Device) (g : Sizes) (takes asks asked grants : Bool) → BeginsAt (record {
  device = d;
  sizes = g;
  terminal_enhanced = takes;
  terminal_responses = asks;
  host_enhanced = asked;
  host_responses = grants;
})
begin_at d g true asks true grants = record { stage = e0 asks grants; here = refl; low = lit≤ tt }
begin_at d g false asks true grants = record { stage = x0 asks grants; here = refl; low = lit≤ tt }
begin_at d g true asks false grants = record { stage = k0 true asks grants; here = refl; low = lit≤ tt }
begin_at d g false asks false grants = record { stage = k0 false asks grants; here = refl; low = lit≤ tt }

begins : (made : Ends) → BeginsAt made
begins made = begin_at made.device made.sizes made.terminal_enhanced made.terminal_responses made.host_enhanced made.host_responses

pub pairs_agree : PairsAgree strict
pairs_agree made steps p e =
    (holds_of strict (Stage made.device made.sizes) (state made.device made.sizes) (λ t. rank t) (next made.device made.sizes)
    IsSettled (holds made.device made.sizes) made (begins made) steps p e).0

pub pairs_settle : PairsSettle strict IsSettled
pairs_settle made steps p e =
    (holds_of strict (Stage made.device made.sizes) (state made.device made.sizes) (λ t. rank t) (next made.device made.sizes)
    IsSettled (holds made.device made.sizes) made (begins made) steps p e).1

pub pairs_end : PairsEnd strict
pairs_end made steps p e =
    ends_of strict (Stage made.device made.sizes) (state made.device made.sizes) (λ t. rank t) (next made.device made.sizes) made (begins made) steps p e
