-- On a yes each turn of every dialogue is answered as it is declared, whatever the operator left in the turns before.
use Rattle.std.proofs.Common.{◌≡◌, ℕ, ◌+◌, List, [], ◌∷◌, ◌++◌, None, Result, Ok, refl, sym, ◌∙◌, ap, subst}
use Rattle.ds_codec.specs.Geometry.{Sizes}
use Rattle.ds_screen.specs.declared.lock.Lock.TheVariants.{Waiting}
use Rattle.ds_screen.specs.Picture.{Picture, IsSound}
use Rattle.ds_screen.specs.Worst.{worst_of}
use Rattle.ds_screen.proofs.SoundLaws.{no_key}
use Rattle.scr_check.specs.declared.finding.Finding.{Finding}
use Rattle.scr_check.specs.Opening.{opening_of}
use Rattle.scr_check.specs.Findings.{findings_of}
use Rattle.scr_check.specs.Walk.{Round, later_opening, walk_from, walk_of}
use Rattle.scr_check.specs.TalkSeen.{AreOfGeometry, HaveOneGeometry}
use Rattle.scr_check.specs.Any.{AnyTalks, AnyTurnKeeps, TalksKeepForAny}
use Rattle.scr_check.proofs.LeadLaws.{leads_once, leads_from_every, leads_geometry, opened_ready}
use Rattle.scr_check.proofs.AnyLaws.{left_sound, answers_for_any}
use Rattle.scr_check.proofs.VerdictLaws.{opened_so}
use Rattle.scr_check.proofs.UnderOrders.{IsBelow}
use Rattle.scr_check.proofs.TalkLaws.{waiting, waits_below, ready_so, turn_below}
use Rattle.scr_check.proofs.TalkKeeps.{later_goes, first_goes, member_of, below_self, heads_same, no_cut}

-- ---- the later turns

later_for_any : (geometry : Sizes) (turn : ℕ) (early : List Round) (round : Round) (late : List Round) (a b before : Picture) → IsSound (waiting a) → IsBelow (waiting a) (worst_of b) → a.geometry ≡ geometry
    → AreOfGeometry geometry (early ++ round ∷ late) → walk_from turn b (early ++ round ∷ late) ≡ None → AnyTalks a early before → AnyTurnKeeps before round
unfolding walk_from
later_for_any geometry turn [] round late a b before sound below here all walks same =
    let goes = later_goes turn round.layout (later_opening b round) (λ v. walk_from (turn + 1) v late) walks in
    let made = turn_below a b goes.next round sound below (here ∙ sym all.0) goes.opens goes.clean in
    subst (λ z. AnyTurnKeeps z round) same made.keeps
later_for_any geometry turn (first ∷ early) round late a b before sound below here all walks (next, t, talks) =
    let goes = later_goes turn first.layout (later_opening b first) (λ v. walk_from (turn + 1) v (early ++ round ∷ late)) walks in
    let made = turn_below a b goes.next first sound below (here ∙ sym all.0) goes.opens goes.clean in
    let same : made.opened ≡ t.opened = leads_once a made.opened t.opened first.records made.leads t.leads in
    let under : IsBelow t.opened goes.next = subst (λ z. IsBelow z goes.next) same made.below in
    let good : IsSound t.opened = subst IsSound same made.sound in
    later_for_any geometry (turn + 1) early round late next goes.next before (left_sound t.opened next Waiting 0x60 good t.left no_key) (waits_below t.opened next goes.next t.left under)
    (t.left.geometry ∙ leads_geometry a t.opened first.records t.leads ∙ here) all.1 goes.later talks

-- ---- the first turn

opened_for_any : (first : Picture) (round : Round) (v : Picture) → opening_of round.layout round.records ≡ Ok v → IsSound v → findings_of round.layout v ≡ [] → first.geometry ≡ round.layout.geometry
    → AnyTurnKeeps first round
opened_for_any first round v opens sound clean geometry =
    let is = opened_ready round.layout round.records v opens in
    record {
      opened = v;
      leads = leads_from_every round.layout round.records v opens first geometry;
      sound = sound;
      usable = ready_so round.layout.size v is.0 is.1.0 is.1.1;
      clean = clean;
      promise = answers_for_any round.layout v (opened_so round.layout round.records v opens sound) clean;
    }

cut_for_any : (early : List Round) (round : Round) (late : List Round) → ((first : Round) (rest : List Round) → early ++ round ∷ late ≡ first ∷ rest → (v : Picture) → opening_of first.layout first.records ≡ Ok v → IsSound v)
    → HaveOneGeometry (early ++ round ∷ late) → walk_of (early ++ round ∷ late) ≡ None
    → (start before : Picture) → start.geometry ≡ round.layout.geometry → AnyTalks start early before → AnyTurnKeeps before round
unfolding walk_of
cut_for_any [] round late sounds one walks start before geometry same =
    let goes = first_goes round.layout (opening_of round.layout round.records) (λ v. walk_from 1 v late) walks in
    subst (λ z. AnyTurnKeeps z round) same (opened_for_any start round goes.next goes.opens (sounds round late refl goes.next goes.opens) goes.clean geometry)
cut_for_any (first ∷ early) round late sounds one walks start before geometry (next, t, talks) =
    let goes = first_goes first.layout (opening_of first.layout first.records) (λ v. walk_from 1 v (early ++ round ∷ late)) walks in
    let here : start.geometry ≡ first.layout.geometry = geometry ∙ member_of first.layout.geometry early round late one in
    let same : goes.next ≡ t.opened = leads_once start goes.next t.opened first.records (leads_from_every first.layout first.records goes.next goes.opens start here) t.leads in
    let under : IsBelow t.opened goes.next = subst (λ z. IsBelow z goes.next) same (below_self goes.next) in
    let good : IsSound t.opened = subst IsSound same (sounds first (early ++ round ∷ late) refl goes.next goes.opens) in
    later_for_any first.layout.geometry 1 early round late next goes.next before (left_sound t.opened next Waiting 0x60 good t.left no_key) (waits_below t.opened next goes.next t.left under)
    (t.left.geometry ∙ leads_geometry start t.opened first.records t.leads ∙ here) one goes.later talks

pub none_for_any : TalksKeepForAny []
none_for_any early round late parts = absurd (no_cut early round late parts)

pub talks_keep_for_any : (first : Round) (rest : List Round) (v : Picture) → opening_of first.layout first.records ≡ Ok v → IsSound v → HaveOneGeometry (first ∷ rest) → walk_of (first ∷ rest) ≡ None
    → TalksKeepForAny (first ∷ rest)
talks_keep_for_any first rest v opens sound one walks early round late parts =
    cut_for_any early round late (λ head tail is w opened.
    let same = heads_same first head rest tail (parts ∙ is) in
    let other : opening_of first.layout first.records ≡ Ok w = ap (λ (r : Round). opening_of r.layout r.records) same.0 ∙ opened in
    subst IsSound (one_opening v w (opening_of first.layout first.records) opens other) sound)
    (subst HaveOneGeometry parts one) (ap walk_of (sym parts) ∙ walks)
  where
    one_opening : (v w : Picture) (r : Result Picture Finding) → r ≡ Ok v → r ≡ Ok w → v ≡ w
    one_opening v w r a b = cc
