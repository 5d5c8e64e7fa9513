use Rattle.std.proofs.Common.{◌≡◌, [], ◌∷◌, List, length, map, Some, refl, Result, Ok, Err, sym, ◌∙◌, ap, subst}
use Rattle.std.proofs.lemmas.Result.{IfOk-weaker}
use Rattle.ds_screen.specs.Picture.{Picture, IsSound}
use Rattle.scr_check.specs.declared.finding.Finding.{Finding}
use Rattle.scr_check.specs.declared.talk.TalkVerdict.TheVariants.{Yes}
use Rattle.scr_check.specs.Talk.{TalksKeep}
use Rattle.scr_check.specs.Any.{TalksKeepForAny}
use Rattle.scr_check.specs.declared.talk.Turn.{Turn}
use Rattle.scr_check.specs.Seen.{IsOpening}
use Rattle.std.specs.Prelude.{IfOk}
use Rattle.std.specs.declared.alloc.AllocError.{AllocError}
use Rattle.ds_screen.specs.Outline.{IsOutlineOf}
use Rattle.scr_check.specs.declared.talk.TalkVerdict.{TalkVerdict}
use Rattle.scr_check.specs.Opening.{opening_of}
use Rattle.scr_check.specs.Findings.{findings_of}
use Rattle.scr_check.specs.Walk.{Round, stops_or, walk_from, walk_of}
use Rattle.scr_check.specs.TalkSeen.{round_of, rounds_of, stop_in, HaveOneGeometry}
use Rattle.scr_check.proofs.VerdictLaws.{opened_size}
use Rattle.scr_check.proofs.OwnTalk.{own_talks}
use Rattle.scr_check.proofs.AnyTalk.{none_for_any, talks_keep_for_any}
use Rattle.scr_check.proofs.WalkLaws.{starts_open, starts_stands, starts_empty}
use Rattle.scr_check.proofs.talk.check_talk.Goals as goal

none_there : (turns : List Turn) → length turns ≡ 0 → rounds_of turns ≡ []
none_there [] none = refl
none_there (turn ∷ turns) none = absurd cc

pub returns-in_default : goal.returns-in_default
returns-in_default c =
    let none = none_there c.args.turns.now c.in_default.ensures.cases in
    record {
      exact = starts_empty (rounds_of c.args.turns.now) none;
      yes = λ is. subst TalksKeep (sym none) (own_talks [] tt none_for_any);
      any = λ is. subst TalksKeepForAny (sym none) none_for_any;
    }

-- a verdict that stops at a turn is no yes
stands_yes : (verdict : TalkVerdict) (findings : List Finding) (A : Type 0) → stop_in verdict ≡ Some (record { turn = 0; findings = findings }) → verdict ≡ Yes → A
stands_yes verdict findings A stops is = absurd (let e : Some (record { turn = 0; findings = findings }) ≡ stop_in Yes = sym stops ∙ ap stop_in is in cc)

pub returns-in-Stands : goal.returns-in-Stands
returns-in-Stands c =
    let first : Turn = c.in-Some.first.now in
    let finding : Finding = c.in-Stands.finding in
    let stands = subst (IsOpening first.layout.now (map (λ bytes. bytes.now) first.records.now)) c.in-Stands.is c.in_ok-outline.ensures in
    record {
      exact = subst (λ (turns : List Turn). IfOk c.stopped_first.result (λ verdict. stop_in verdict ≡ walk_of (rounds_of turns))) (sym c.in-Some.ensures.cases.0)
          (IfOk-weaker c.stopped_first.result _ _ (λ verdict is. starts_stands (round_of first) (rounds_of c.in-Some.others.now) finding (stop_in verdict) stands is) c.stopped_first.ensures);
      yes = IfOk-weaker c.stopped_first.result _ _ (λ verdict. stands_yes verdict (finding ∷ []) (TalksKeep (rounds_of c.args.turns.now))) c.stopped_first.ensures;
      any = IfOk-weaker c.stopped_first.result _ _ (λ verdict. stands_yes verdict (finding ∷ []) (TalksKeepForAny (rounds_of c.args.turns.now))) c.stopped_first.ensures;
    }

-- the later turns decide, where the first is opened
opened_exact : (r : Result TalkVerdict AllocError) (round : Round) (rounds : List Round) (v : Picture) (P : Picture → Type 0) → P v → opening_of round.layout round.records ≡ Ok v
    → IfOk r (λ verdict. (w : Picture) → P w → w.size ≡ round.layout.size → stop_in verdict ≡ stops_or 0 (findings_of round.layout w) (walk_from 1 w rounds))
    → IfOk r (λ verdict. stop_in verdict ≡ walk_of (round ∷ rounds))
opened_exact (Ok verdict) round rounds v P here opens later = starts_open round rounds v (stop_in verdict) opens (later v here (opened_size round.layout round.records v opens))
opened_exact (Err e) round rounds v P here opens later = later

opened_yes : (r : Result TalkVerdict AllocError) (turns : List Turn) (first : Turn) (others : List Turn) (v : Picture) → turns ≡ first ∷ others
    → opening_of (round_of first).layout (round_of first).records ≡ Ok v → IsSound v → HaveOneGeometry (rounds_of turns)
    → IfOk r (λ verdict. stop_in verdict ≡ walk_of (rounds_of (first ∷ others))) → IfOk r (λ verdict. verdict ≡ Yes → TalksKeep (rounds_of turns))
opened_yes (Ok verdict) turns first others v parts opens sound one exact = λ is.
    subst (λ l. TalksKeep (rounds_of l)) (sym parts)
    (let here : HaveOneGeometry (rounds_of (first ∷ others)) = subst (λ l. HaveOneGeometry (rounds_of l)) parts one in own_talks (rounds_of (first ∷ others)) here (talks_keep_for_any (round_of first) (rounds_of others) v opens sound here (sym exact ∙ ap stop_in is)))
opened_yes (Err e) turns first others v parts opens sound one exact = exact

opened_any : (r : Result TalkVerdict AllocError) (turns : List Turn) (first : Turn) (others : List Turn) (v : Picture) → turns ≡ first ∷ others
    → opening_of (round_of first).layout (round_of first).records ≡ Ok v → IsSound v → HaveOneGeometry (rounds_of turns)
    → IfOk r (λ verdict. stop_in verdict ≡ walk_of (rounds_of (first ∷ others))) → IfOk r (λ verdict. verdict ≡ Yes → TalksKeepForAny (rounds_of turns))
opened_any (Ok verdict) turns first others v parts opens sound one exact = λ is.
    subst (λ l. TalksKeepForAny (rounds_of l)) (sym parts)
    (talks_keep_for_any (round_of first) (rounds_of others) v opens sound (subst (λ l. HaveOneGeometry (rounds_of l)) parts one) (sym exact ∙ ap stop_in is))
opened_any (Err e) turns first others v parts opens sound one exact = exact

pub returns-in-Leads : goal.returns-in-Leads
returns-in-Leads c =
    let first : Turn = c.in-Some.first.now in
    let P : List Turn → Type 0 = λ turns. IfOk c.check_opened.result (λ verdict. stop_in verdict ≡ walk_of (rounds_of turns)) in
    let opened = subst (IsOpening first.layout.now (map (λ bytes. bytes.now) first.records.now)) c.in-Leads.is c.in_ok-outline.ensures in
    let exact : P (first ∷ c.in-Some.others.now) =
    opened_exact c.check_opened.result (round_of first) (rounds_of c.in-Some.others.now) opened.0 (λ v. IsOutlineOf c.in-Leads.outline v) opened.2 opened.1 c.check_opened.ensures in
    record {
      exact = subst P (sym c.in-Some.ensures.cases.0) exact;
      yes = opened_yes c.check_opened.result c.args.turns.now first c.in-Some.others.now opened.0 c.in-Some.ensures.cases.0 opened.1 opened.2.sound c.requires exact;
      any = opened_any c.check_opened.result c.args.turns.now first c.in-Some.others.now opened.0 c.in-Some.ensures.cases.0 opened.1 opened.2.sound c.requires exact;
    }
