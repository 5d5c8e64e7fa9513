-- On a yes each turn of every dialogue with this terminal's keys keeps its promise.
use Rattle.std.proofs.Common.{◌≡◌, List, [], ◌∷◌, ◌++◌, refl, sym, ◌∙◌, subst, append_assoc}
use Rattle.ds_codec.specs.Geometry.{Sizes}
use Rattle.ds_screen.specs.Picture.{Picture, IsSound}
use Rattle.ds_keys.specs.KeyRuns as keyed
use Rattle.scr_check.specs.Walk.{Round}
use Rattle.scr_check.specs.Talk.{TurnLeads, Talks, TurnKeeps, TalksKeep}
use Rattle.scr_check.specs.TalkSeen.{AreOfGeometry, HaveOneGeometry}
use Rattle.scr_check.specs.Any.{IsLeftOf, AnyTurnLeads, AnyTalks, AnyTurnKeeps, TalksKeepForAny}
use Rattle.scr_check.proofs.LeadLaws.{leads_once}
use Rattle.scr_check.proofs.AnyLaws.{keys_leave}
use Rattle.scr_check.proofs.AnyKeys.{sending_left, own_keys_are_promised}
use Rattle.scr_check.proofs.TalkLaws.{key_leaves}
use Rattle.scr_check.proofs.TalkKeeps.{member_of, no_cut}

-- a turn with this terminal's keys leaves what any terminal may leave
own_turn : (before : Picture) (round : Round) (after : Picture) (t : TurnLeads before round after) → IsSound t.opened → AnyTurnLeads before round after
own_turn before round after t sound =
    let left = sending_left t.opened (keyed.after t.opened t.keys) t.aid (keys_leave t.opened t.keys sound t.quiet) in
    record {
      opened = t.opened;
      leads = t.leads;
      left = subst (IsLeftOf t.opened) (sym (t.leaves ∙ key_leaves (keyed.after t.opened t.keys) t.aid t.other t.accepted)) left;
    }

own_keeps : (before : Picture) (round : Round) → AnyTurnKeeps before round → TurnKeeps before round
own_keeps before round k =
    record { opened = k.opened; leads = k.leads; usable = k.usable; clean = k.clean; promise = own_keys_are_promised round.layout k.opened k.sound k.promise }

one_more : (first middle next : Picture) (early : List Round) (round : Round) → AnyTalks first early middle → AnyTurnLeads middle round next → AnyTalks first (early ++ round ∷ []) next
one_more first middle next [] round same t = (next, subst (λ z. AnyTurnLeads z round next) (sym same) t, refl)
one_more first middle next (r ∷ early) round (other, u, talks) t = (other, u, one_more other middle next early round talks t)

-- the turns that are done, and those to come before the one in question
own_from : (rounds done : List Round) (geometry : Sizes) → TalksKeepForAny rounds → AreOfGeometry geometry rounds → (early : List Round) (round : Round) (late : List Round)
    → rounds ≡ done ++ (early ++ round ∷ late) → (first middle before : Picture) → first.geometry ≡ geometry → AnyTalks first done middle → Talks middle early before → TurnKeeps before round
own_from rounds done geometry any one [] round late parts first middle before here went same =
    let of : round.layout.geometry ≡ geometry = member_of geometry done round late (subst (AreOfGeometry geometry) parts one) in
    subst (λ z. TurnKeeps z round) same (own_keeps middle round (any done round late parts first middle (here ∙ sym of) went))
own_from rounds done geometry any one (r ∷ early) round late parts first middle before here went (next, t, talks) =
    let of : r.layout.geometry ≡ geometry = member_of geometry done r (early ++ round ∷ late) (subst (AreOfGeometry geometry) parts one) in
    let keeps : AnyTurnKeeps middle r = any done r (early ++ round ∷ late) parts first middle (here ∙ sym of) went in
    let same : keeps.opened ≡ t.opened = leads_once middle keeps.opened t.opened r.records keeps.leads t.leads in
    let turn : AnyTurnLeads middle r next = own_turn middle r next t (subst IsSound same keeps.sound) in
    let on : rounds ≡ (done ++ r ∷ []) ++ (early ++ round ∷ late) = parts ∙ sym (append_assoc done (r ∷ []) (early ++ round ∷ late)) in
    own_from rounds (done ++ r ∷ []) geometry any one early round late on first next before here (one_more first middle next done r went turn) talks

pub own_talks : (rounds : List Round) → HaveOneGeometry rounds → TalksKeepForAny rounds → TalksKeep rounds
own_talks [] one any = λ early round late parts. absurd (no_cut early round late parts)
own_talks (head ∷ rest) one any = λ early round late parts first before geometry talks.
    let all : AreOfGeometry head.layout.geometry (head ∷ rest) = (refl, one) in
    let of : round.layout.geometry ≡ head.layout.geometry = member_of head.layout.geometry early round late (subst (AreOfGeometry head.layout.geometry) parts all) in
    own_from (head ∷ rest) [] head.layout.geometry any all early round late parts first first before (geometry ∙ of) refl talks
