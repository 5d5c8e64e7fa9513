use Rattle.std.proofs.Common.{◌≡◌, ℕ, List, [], ◌∷◌, length, length-append, refl, sym, ◌∙◌, ap, subst, arith, Ok, Err}
use Rattle.std.specs.Prelude.{Result, Option, is_some, None, Some, true, false}
use Rattle.tn_wire.specs.declared.open_token.Found.{Found}
use Rattle.tn_wire.proofs.Steps.{fault_leaves}
use Rattle.std.proofs.lemmas.List.{nil_from_length}
use Rattle.std.proofs.lemmas.Result.{err_from_is_err_and}
use Rattle.tn_wire.specs.declared.event.WireFault.{WireFault}
use Rattle.tn_wire.specs.Stream.{Told}
use Rattle.tn_wire.specs.Calls.{Answers}
use Rattle.tn_wire.specs.Open.{content_of, lent_of, found_events, GoesOn}
use Rattle.tn_wire.proofs.Runs.{Next, none_taken, both_taken, next_byte}
use Rattle.tn_wire.proofs.run.take_event.Goals as goal
use Rattle.tn_wire.proofs.run.take_event.Goals.{After-take_run, After-take_byte}

pub bytes-init : goal.bytes-init
bytes-init c = record {
  goes_on =
      none_taken c.args.kept.now.items c.args.parameters.now.items c.args.state.now c.args.input.now.now c.requires.record_fits
      c.requires.parameters_fit;
  room = c.requires;
}

-- up to the next IAC, or as far as before
ran : (c : After-take_run) → GoesOn (content_of c.args.kept.now.items c.args.parameters.now.items c.args.state.now) c.args.input.now.now
    (content_of c.take_run.new.kept.items c.bytes.parameters.items c.bytes.state) c.take_run.new.input.now
ran c =
    both_taken (content_of c.args.kept.now.items c.args.parameters.now.items c.args.state.now) c.args.input.now.now
    (content_of c.bytes.kept.items c.bytes.parameters.items c.bytes.state) c.bytes.input.now
    (content_of c.take_run.new.kept.items c.bytes.parameters.items c.bytes.state) c.take_run.new.input.now c.bytes.invariant.goes_on
    (c.take_run.ensures.goes_on c.bytes.parameters.items c.bytes.invariant.room.parameters_fit)

-- and one byte more
took : (c : After-take_byte) (events : Result (List Told) WireFault) (new : List ℕ)
    → Answers (content_of c.take_run.new.kept.items c.bytes.parameters.items c.bytes.state) (c.in-Some.byte.now ∷ []) events new
    → Next (content_of c.args.kept.now.items c.args.parameters.now.items c.args.state.now) c.args.input.now.now events new c.in-Some.rest.now
took c events new p =
    next_byte (content_of c.args.kept.now.items c.args.parameters.now.items c.args.state.now) c.args.input.now.now
    (content_of c.take_run.new.kept.items c.bytes.parameters.items c.bytes.state) new c.in-Some.rest.now c.in-Some.byte.now events
    (subst (λ z. GoesOn (content_of c.args.kept.now.items c.args.parameters.now.items c.args.state.now) c.args.input.now.now
    (content_of c.take_run.new.kept.items c.bytes.parameters.items c.bytes.state) z) c.in-Some.ensures.cases.0 (ran (goal.at.After-take_byte c).After-take_run)) p

pub returns-in_default-clause-takes : goal.returns-in_default-clause-takes
returns-in_default-clause-takes c =
    let so_far = ran (goal.at.returns-in_default-clause-takes c).After-take_run in record {
      taken = so_far.taken;
      front = so_far.front;
      answers = so_far.answers;
      used_up = λ none. nil_from_length c.take_run.new.input.now c.in_default.ensures.cases;
      shorter = λ some. absurd (some refl);
    }

pub returns-in_err-next-clause-takes : goal.returns-in_err-next-clause-takes
returns-in_err-next-clause-takes c =
    let p = err_from_is_err_and c.from_residual.result c.from_residual.ensures.1 in
    let one = took (goal.at.returns-in_err-next-clause-takes c).After-take_byte (Err c.in_err-next.field-0.0) [] c.in_err-next.ensures.takes in
    rw (p.1, p.2)
    (record {
      taken = one.taken;
      front = one.front;
      answers =
          fault_leaves (content_of c.args.kept.now.items c.args.parameters.now.items c.args.state.now) one.taken []
          (content_of c.take_byte.new.kept.items c.take_byte.new.parameters.items c.bytes.state) c.in_err-next.field-0.0 one.answers;
      used_up = λ none. absurd (cc);
      shorter = λ some. one.shorter;
    })

none_of : (o : Option Found) → is_some o ≡ false → o ≡ None
none_of None e = refl
none_of (Some x) e = absurd (cc)

some_none : (o : Option Found) → is_some o ≡ true → ◌≡◌ {A = Result (Option Found) WireFault} (Ok o) (Ok None) → ⊥
some_none None e none = cc
some_none (Some x) e none = cc

pub returns-then-is_some-clause-takes : goal.returns-then-is_some-clause-takes
returns-then-is_some-clause-takes c =
    let kept : List ℕ = c.take_byte.new.kept.items in
    let parameters : List ℕ = c.take_byte.new.parameters.items in
    let one =
    took (goal.at.returns-then-is_some-clause-takes c).After-take_byte (Ok (found_events c.in_ok-next.found (lent_of kept parameters c.in_ok-next.next)))
    (content_of kept parameters c.in_ok-next.next) c.in_ok-next.ensures.takes in
    let found : is_some c.in_ok-next.found ≡ true = sym c.is_some.ensures ∙ c.if-is_some.true in
    record {
      taken = one.taken;
      front = one.front;
      answers = one.answers;
      used_up = λ none. absurd (some_none c.in_ok-next.found found none);
      shorter = λ some. one.shorter;
    }

pub bytes-smaller : goal.bytes-smaller
bytes-smaller c =
    let run = c.take_run.ensures.goes_on c.bytes.parameters.items c.bytes.invariant.room.parameters_fit in
    omega (arith, ap length run.front, length-append run.taken c.take_run.new.input.now, c.in-Some.ensures.cases.1)

pub bytes-preserved : goal.bytes-preserved
bytes-preserved c =
    let kept : List ℕ = c.take_byte.new.kept.items in
    let parameters : List ℕ = c.take_byte.new.parameters.items in
    let left : List ℕ = content_of kept parameters c.in_ok-next.next in
    let none : c.in_ok-next.found ≡ None = none_of c.in_ok-next.found (sym c.is_some.ensures ∙ c.if-is_some.false) in
    let one =
    took (goal.at.bytes-preserved c).After-take_byte (Ok []) left
    (subst (λ z. Answers (content_of c.take_run.new.kept.items c.bytes.parameters.items c.bytes.state) (c.in-Some.byte.now ∷ [])
    (Ok (found_events z (lent_of kept parameters c.in_ok-next.next))) left) none c.in_ok-next.ensures.takes) in
    record {
      goes_on = record { taken = one.taken; front = one.front; answers = one.answers };
      room = c.in_ok-next.ensures.room;
    }
