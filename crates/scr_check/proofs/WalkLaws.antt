-- The walk of a dialogue, one turn further.
use Rattle.std.proofs.Common.{◌≡◌, ℕ, suc, ◌+◌, ◌<◌, ◌≤◌, ◌==◌, true, false, List, [], ◌∷◌, map, length, get_or, drop, Option, Some, None, Result, Ok, Err, refl, sym, ◌∙◌, ap, subst, arith}
use Rattle.std.proofs.Math.Seq.{drop-cons}
use Rattle.std.proofs.lemmas.Bool.{eqb-true}
use Rattle.std.proofs.lemmas.List.{drop_all}
use Rattle.ds_codec.specs.Reading.{◌>>=◌}
use Rattle.ds_codec.specs.declared.size.Size.{Size}
use Rattle.ds_screen.specs.Picture.{Picture}
use Rattle.ds_screen.specs.Outline.{Outlined, IsOutlineOf}
use Rattle.ds_screen.specs.Worst.{worst_of, OutlinesWorst}
use Rattle.scr_layout.specs.Layout.{Declaration}
use Rattle.scr_check.specs.declared.finding.Finding.{Finding}
use Rattle.scr_check.specs.Opening.{ready, opening_of}
use Rattle.scr_check.specs.Findings.{findings_of, told}
use Rattle.scr_check.specs.Seen.{IsReadyOn}
use Rattle.scr_check.specs.Walk.{Round, Stop, later_fault, later_from, opened_later, later_opening, without_keys, later_told, stops_or, goes_on, walk_from, walk_of}
use Rattle.scr_check.specs.Taking.{TakesAllOn}
use Rattle.scr_check.specs.TalkSeen.{OpensLater, Judges}
use Rattle.scr_check.proofs.LeadLaws.{bind_ok, ready_ok}
use Rattle.scr_check.proofs.TakingLaws.{is_later}

-- ---- the opening of a later turn
pub later_opens : {A : Type 0} (f : A → List ℕ) (layout : Declaration) (records : List A) (v w : Picture) (r : Result Picture Finding) → (length records == 0) ≡ false
    → later_from 0 (worst_of v) (map f records) ≡ Ok w → ready layout.size w ≡ r → opened_later v layout (map f records) ≡ r
later_opens f layout [] v w r some takes is = absurd cc
later_opens f layout (b ∷ bs) v w r some takes is = ap (λ s. s >>= ready layout.size) takes ∙ is

pub later_stands : {A : Type 0} (f : A → List ℕ) (layout : Declaration) (records : List A) (v : Picture) (finding : Finding) → (length records == 0) ≡ false
    → later_from 0 (worst_of v) (map f records) ≡ Err finding → opened_later v layout (map f records) ≡ Err finding
later_stands f layout [] v finding some takes = absurd cc
later_stands f layout (b ∷ bs) v finding some takes = ap (λ s. s >>= ready layout.size) takes

-- the same of outlines
pub opens_by : {A : Type 0} (f : A → List ℕ) (old worse new : Outlined) (records : List A) (size : Size) (r : Result (Unit {0}) Finding) → (length records == 0) ≡ false
    → OutlinesWorst old worse → TakesAllOn later_fault worse new (map f records) (Ok tt) → IsReadyOn new size r → OpensLater old new (map f records) size r
opens_by f old worse new records size (Ok done) some worst takes is = λ v outlines layout sized.
    let led = takes (worst_of v) (worst v outlines) in
    (led.0, later_opens f layout records v led.0 (Ok led.0) some (sym (is_later 0 (worst_of v) (map f records)) ∙ led.1) (ap (λ s. ready s led.0) sized ∙ is led.0 led.2), led.2)
opens_by f old worse new records size (Err finding) some worst takes is = λ v outlines layout sized.
    let led = takes (worst_of v) (worst v outlines) in
    later_opens f layout records v led.0 (Err finding) some (sym (is_later 0 (worst_of v) (map f records)) ∙ led.1) (ap (λ s. ready s led.0) sized ∙ is led.0 led.2)

pub stands_by : {A : Type 0} (f : A → List ℕ) (old worse new : Outlined) (records : List A) (size : Size) (finding : Finding) → (length records == 0) ≡ false
    → OutlinesWorst old worse → TakesAllOn later_fault worse new (map f records) (Err finding) → OpensLater old new (map f records) size (Err finding)
stands_by f old worse new records size finding some worst takes = λ v outlines layout sized.
    later_stands f layout records v finding some (sym (is_later 0 (worst_of v) (map f records)) ∙ takes (worst_of v) (worst v outlines))

mapped_none : (findings : List Finding) → map without_keys findings ≡ [] → findings ≡ []
mapped_none [] none = refl
mapped_none (finding ∷ findings) none = absurd cc

-- a turn of which nothing is told has led to a picture
pub told_none : (layout : Declaration) (r : Result Picture Finding) → later_told layout r ≡ [] → (v : Picture) × (r ≡ Ok v) × (findings_of layout v ≡ [])
told_none layout (Ok v) none = (v, refl, mapped_none (findings_of layout v) none)
told_none layout (Err finding) none = absurd cc

opened_size : (layout : Declaration) (v w : Picture) (records : List (List ℕ)) → opened_later v layout records ≡ Ok w → w.size ≡ layout.size
opened_size layout v w [] opens = absurd cc
opened_size layout v w (bytes ∷ others) opens =
    let both = bind_ok (later_from 0 (worst_of v) (bytes ∷ others)) (ready layout.size) w opens in
    let last = ready_ok layout.size both.0 w both.2 in
    subst (λ z. z.size ≡ layout.size) last.0 last.1.whole

pub judged : (old new : Outlined) (records : List (List ℕ)) (layout : Declaration) (found findings : List Finding) (size : Size) → layout.size ≡ size
    → OpensLater old new records size (Ok tt) → ((v : Picture) → IsOutlineOf new v → v.size ≡ layout.size → found ≡ findings_of layout v)
    → findings ≡ map without_keys found → Judges old new records layout findings
judged old new records layout found findings size sized opens tells is = λ v outlines.
    let led = opens v outlines layout sized in
    let same = is ∙ ap (map without_keys) (tells led.0 led.2 (opened_size layout v led.0 records led.1)) in
    (same ∙ ap (later_told layout) (sym led.1), λ none. (led.0, led.1, led.2))

-- ---- turns
turn_here : {A : Type 0} (turns : List A) (index : ℕ) (one : A) → index < length turns → one ≡ get_or turns index one → drop index turns ≡ one ∷ drop (suc index) turns
turn_here turns index one lt here = drop-cons turns index one lt ∙ ap (λ z. z ∷ drop (suc index) turns) (sym here)

pub walks_on : {A : Type 0} (f : A → Round) (turns : List A) (index turn : ℕ) (one : A) (w next : Picture) → index < length turns → one ≡ get_or turns index one
    → later_told (f one).layout (later_opening w (f one)) ≡ [] → later_opening w (f one) ≡ Ok next
    → walk_from (turn + 1) next (map f (drop (index + 1) turns)) ≡ walk_from turn w (map f (drop index turns))
unfolding walk_from
walks_on f turns index turn one w next lt here clean opens =
    let rest = map f (drop (suc index) turns) in
    ap (λ k. walk_from (turn + 1) next (map f (drop k turns))) (let e : index + 1 ≡ suc index = omega arith in e)
    ∙ sym (ap (λ l. walk_from turn w (map f l)) (turn_here turns index one lt here)
    ∙ ap (λ l. stops_or turn l (goes_on (λ v. walk_from (turn + 1) v rest) (later_opening w (f one)))) clean
    ∙ ap (goes_on (λ v. walk_from (turn + 1) v rest)) opens)

pub stops_at : (turn : ℕ) (findings : List Finding) (others : Option Stop) → (length findings == 0) ≡ false → stops_or turn findings others ≡ Some (record { turn = turn; findings = findings })
stops_at turn [] others some = absurd cc
stops_at turn (finding ∷ findings) others some = refl

pub walk_stops : {A : Type 0} (f : A → Round) (turns : List A) (index turn : ℕ) (one : A) (w : Picture) (findings : List Finding) → index < length turns → one ≡ get_or turns index one
    → findings ≡ later_told (f one).layout (later_opening w (f one)) → (length findings == 0) ≡ false
    → Some (record { turn = turn; findings = findings }) ≡ walk_from turn w (map f (drop index turns))
unfolding walk_from
walk_stops f turns index turn one w findings lt here told some =
    let rest = map f (drop (suc index) turns) in
    sym (ap (λ l. walk_from turn w (map f l)) (turn_here turns index one lt here)
    ∙ ap (λ l. stops_or turn l (goes_on (λ v. walk_from (turn + 1) v rest) (later_opening w (f one)))) (sym told)
    ∙ stops_at turn findings (goes_on (λ v. walk_from (turn + 1) v rest) (later_opening w (f one))) some)

pub walk_ends : {A : Type 0} (f : A → Round) (turns : List A) (index turn : ℕ) (w : Picture) → length turns ≤ index → None ≡ walk_from turn w (map f (drop index turns))
unfolding walk_from
walk_ends f turns index turn w past = ap (λ l. walk_from turn w (map f l)) (sym (drop_all index turns past))

pub none_of : (findings : List Finding) → (length findings == 0) ≡ true → findings ≡ []
none_of [] none = refl
none_of (finding ∷ findings) none = let e : length (finding ∷ findings) ≡ 0 = eqb-true (length (finding ∷ findings)) 0 none in absurd (omega (arith, e))

-- ---- the first turn
pub starts_open : (round : Round) (rounds : List Round) (v : Picture) (later : Option Stop) → opening_of round.layout round.records ≡ Ok v
    → later ≡ stops_or 0 (findings_of round.layout v) (walk_from 1 v rounds) → later ≡ walk_of (round ∷ rounds)
unfolding walk_of
starts_open round rounds v later opens is =
    is ∙ sym (ap (λ r. stops_or 0 (told round.layout r) (goes_on (λ w. walk_from 1 w rounds) r)) opens)

pub starts_stands : (round : Round) (rounds : List Round) (finding : Finding) (later : Option Stop) → opening_of round.layout round.records ≡ Err finding
    → later ≡ Some (record { turn = 0; findings = finding ∷ [] }) → later ≡ walk_of (round ∷ rounds)
unfolding walk_of
starts_stands round rounds finding later stands is =
    is ∙ sym (ap (λ r. stops_or 0 (told round.layout r) (goes_on (λ w. walk_from 1 w rounds) r)) stands)

pub starts_empty : (rounds : List Round) → rounds ≡ [] → None ≡ walk_of rounds
unfolding walk_of
starts_empty rounds none = ap walk_of (sym none)
