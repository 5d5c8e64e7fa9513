use Rattle.std.proofs.Common.{◌≡◌, ◌++◌, [], ◌∷◌, map, sym, ◌∙◌, ap}
use Rattle.std.proofs.lemmas.List.{map-append}
use Rattle.ds_inbound.specs.Reading.{sent_of}
use Rattle.scr_check.specs.Binding.{bound_from, bound_of}
use Rattle.scr_check.specs.Bound.{bound_seen}
use Rattle.scr_check.proofs.NextLaw.{next_bound, bound_at_front, empty_lead}
use Rattle.scr_check.proofs.binding.bind.Goals as goal

pub loop-field-init : goal.loop-field-init
loop-field-init c = ([], c.none_taken-taken.ensures, bound_at_front c.args.layout.now.entries c.args.inbound.now c.into_iter-field-iterator.result (empty_lead c.lead.result.now c.args.inbound.now.lead (sym c.is_empty.ensures ∙ c.if-not-is_empty.false) c.lead.ensures.characters) (c.into_iter-field-iterator.ensures.into_iter_gives ∙ c.fields-field-items.ensures), λ none. sym (ap (map bound_seen) c.new-bound.ensures.items))

pub loop-field-preserved-then-is_short : goal.loop-field-preserved-then-is_short
loop-field-preserved-then-is_short c =
    let pairs = c.loop-field.invariant.0 in
    let are = c.loop-field.invariant.1 in
    let pair = bound_seen c.in_ok-pair.pair in
    let all = ap (bound_from c.args.layout.now.entries pairs) (sym c.in-Some.ensures.steps) ∙ c.loop-field.invariant.2 in (
      pairs ++ pair ∷ [],
      c.in_ok-pair.ensures.taken pairs are,
      next_bound c.args.layout.now.entries pairs (sent_of c.in-Some.field) c.next.new.self pair (bound_of c.args.layout.now.entries c.args.inbound.now) (c.in_ok-pair.ensures.due pairs are).0 all,
      λ short. absurd (let a = short in let b = c.if-is_short.true in cc),
    )

pub loop-field-preserved : goal.loop-field-preserved
loop-field-preserved c =
    let pairs = c.loop-field.invariant.0 in
    let are = c.loop-field.invariant.1 in
    let pair = bound_seen c.in_ok-pair.pair in
    let all = ap (bound_from c.args.layout.now.entries pairs) (sym c.in-Some.ensures.steps) ∙ c.loop-field.invariant.2 in (
      pairs ++ pair ∷ [],
      c.in_ok-pair.ensures.taken pairs are,
      next_bound c.args.layout.now.entries pairs (sent_of c.in-Some.field) c.next.new.self pair (bound_of c.args.layout.now.entries c.args.inbound.now) (c.in_ok-pair.ensures.due pairs are).0 all,
      λ short. absurd cc,
    )

pub loop-field-preserved-in-Ok : goal.loop-field-preserved-in-Ok
loop-field-preserved-in-Ok c =
    let pairs = c.loop-field.invariant.0 in
    let are = c.loop-field.invariant.1 in
    let pair = bound_seen c.in_ok-pair.pair in
    let all = ap (bound_from c.args.layout.now.entries pairs) (sym c.in-Some.ensures.steps) ∙ c.loop-field.invariant.2 in (
      pairs ++ pair ∷ [],
      c.in_ok-pair.ensures.taken pairs are,
      next_bound c.args.layout.now.entries pairs (sent_of c.in-Some.field) c.next.new.self pair (bound_of c.args.layout.now.entries c.args.inbound.now) (c.in_ok-pair.ensures.due pairs are).0 all,
      λ short.
          let had : pairs ≡ map bound_seen c.loop-field.bound.items = c.loop-field.invariant.3 c.if-is_short.false in
          ap (λ l. l ++ pair ∷ []) had ∙ sym (map-append bound_seen c.loop-field.bound.items (c.in_ok-pair.pair ∷ [])) ∙ ap (map bound_seen) (sym c.in-Ok.ensures.items),
    )
