-- What a call does, clause by clause.
use Rattle.std.proofs.Common.{◌≡◌, ℕ, ◌<◌, List, [], ◌++◌, length, refl, sym, ◌∙◌, ap, Ok, Err, None, Some}
use Rattle.std.specs.Prelude.{Result, MatchResult, IfOk, ◌≢◌}
use Rattle.std.proofs.lemmas.List.{append_cancel_left}
use Rattle.tn_wire.specs.declared.event.WireFault.{WireFault}
use Rattle.tn_wire.specs.declared.event.Step.{Step}
use Rattle.tn_wire.specs.declared.event.Step.TheVariants.{NeedMore, Event}
use Rattle.tn_wire.specs.Calls.{Answers, events_in, IsOnlyAnswer}
use Rattle.tn_wire.specs.Deframer.{Held, Moves}
use Rattle.tn_wire.proofs.Steps.{one_answer_lem}

event_shorter : (result : Result Step WireFault) (P Q : Type 0) → MatchResult (events_in result) (λ told. told ≢ [] → P) (λ w. Q)
    → IfOk result (λ step. step ≢ NeedMore → P)
event_shorter (Ok NeedMore) P Q p = λ h. absurd (h refl)
event_shorter (Ok (Event e)) P Q p = λ h. p (λ none. cc)
event_shorter (Err w) P Q p = tt

err_is : (result : Result Step WireFault) (w : WireFault) → events_in result ≡ Err w → result ≡ Err w
err_is (Ok step) w e = cc
err_is (Err v) w e = let same : v ≡ w = cc in ap Err same

module _ (old : Held) (before : List ℕ) (result : Result Step WireFault) (new : Held) (after : List ℕ)
    (m : Moves old before (events_in result) new after) where
  pub answer_of : old.fault ≡ None → (taken : List ℕ) × (left : List ℕ) × (before ≡ taken ++ after) × Answers old.content taken (events_in result) left
  answer_of fresh = let p = m.fresh fresh in (p.0, new.content, p.1, p.2)

  pub used_up_of : result ≡ Ok NeedMore → after ≡ []
  used_up_of e = m.used_up (ap events_in e)

  pub shorter_of : IfOk result (λ step. step ≢ NeedMore → length after < length before)
  shorter_of = event_shorter result (length after < length before) (old.fault ≡ None → length after < length before) m.shorter

  pub only_of : old.fault ≡ None → IsOnlyAnswer old.content before (events_in result) after
  only_of fresh taken rest left others e a ends =
      let p = m.fresh fresh in
      let both : taken ++ rest ≡ p.0 ++ after = sym e ∙ p.1 in
      let same = one_answer_lem old.content taken rest p.0 after left new.content others (events_in result) both a p.2 ends m.used_up in
      (same.1, append_cancel_left p.0 rest after (ap (λ z. z ++ rest) (sym same.0) ∙ both))

  pub faulted_of : (w : WireFault) → old.fault ≡ Some w → (result ≡ Err w) × (after ≡ before)
  faulted_of w e = let p = m.faulted w e in (err_is result w p.0, p.1)
