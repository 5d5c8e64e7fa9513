use Rattle.std.proofs.Common.{◌≡◌, map, take}
use Rattle.ds_inbound.specs.Answer.{written_characters}
use Rattle.scr_check.specs.Bound.{bound_seen}
use Rattle.tn_session.specs.HostView.{field_view}
use Rattle.tn_session.proofs.outcome.owned_fields.Given as goal

abbrev pub invariant-loop-pair : goal.invariant-loop-pair
invariant-loop-pair l =
    map field_view l.fields.items ≡ map (λ pair. (pair.entry, written_characters pair.characters)) (map bound_seen (take l.pair-index l.bound))
