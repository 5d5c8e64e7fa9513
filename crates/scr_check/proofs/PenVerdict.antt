-- The verdict with the pen, and what a yes of it promises.
use Rattle.std.proofs.Common.{◌≡◌, ◌↔◌, ℕ, zero, suc, ◌+◌, ◌++◌, Bool, true, false, cond, List, [], ◌∷◌, Result, Ok, Err, None, Some, refl, sym, ◌∙◌, ap, subst, inl, inr}
use Rattle.std.specs.Prelude.{slice_get}
use Rattle.std.specs.Option.{option_to_list}
use Rattle.ds_codec.specs.declared.refused.Refused as read
use Rattle.ds_codec.specs.Record.{Message}
use Rattle.ds_codec.specs.Reading.{◌>>=◌, read_of}
use Rattle.ds_screen.specs.declared.field.FieldAt.{FieldAt}
use Rattle.ds_screen.specs.Picture.{Picture, IsSound}
use Rattle.ds_screen.specs.Fields.{fields_of}
use Rattle.ds_screen.specs.Records.{RecordShows, IsRefusedBy, new_picture, shown_of}
use Rattle.ds_terminal.specs.declared.refused.Refused.TheVariants.{Read}
use Rattle.scr_layout.specs.Layout.{Declaration}
use Rattle.scr_check.specs.declared.finding.Finding.{Finding}
use Rattle.scr_check.specs.declared.finding.Finding.TheVariants.{RecordRefused, Selectable}
use Rattle.scr_check.specs.declared.verdict.Verdict.{Verdict}
use Rattle.scr_check.specs.declared.verdict.Verdict.TheVariants.{Yes}
use Rattle.scr_check.specs.Opening.{command_fault, applied, unless_found, taken, taken_from, opening_of}
use Rattle.scr_check.specs.Findings.{findings_of}
use Rattle.scr_check.specs.Seen.{findings_in}
use Rattle.scr_check.specs.Taking.{Fault, TakesBy, taken_by, all_taken_by}
use Rattle.scr_check.specs.Leads.{IsPromised}
use Rattle.scr_check.specs.Any.{AnswersForAny, IsPromisedForAny}
use Rattle.scr_check.specs.Demos.{IsShown, AreShown}
use Rattle.scr_check.specs.Pen.{is_selectable, selectable_finding, selectable_of, told_with_pen, answer_with_pen, ConformsWithPen, all_selected, AnswersWithPen, IsPromisedWithPen, YesMeansWithPen, ShowsOpened, ShowsTaken}
use Rattle.scr_check.proofs.TakingLaws.{first_one}
use Rattle.scr_check.proofs.LeadLaws.{ok_is, opens_so, Opens, leads_once, leads_from_every, opened_ready}
use Rattle.scr_check.proofs.Among.{append_none}
use Rattle.scr_check.proofs.ListLaws.{Each, each_at, each_flat}
use Rattle.scr_check.proofs.AnyLaws.{answers_for_any}
use Rattle.scr_check.proofs.DemoLaws.{findings_shown}
use Rattle.scr_check.proofs.VerdictLaws.{opened_so, clean_promised, clean_for_any, found_opened}
use Rattle.scr_check.proofs.UserLaw.{yes_means_for_any}
use Rattle.scr_check.proofs.PenLaws.{selecting_leaves}

-- ---- records on a screen

pub shows_taken : (fault : Fault) (index : ℕ) (v w : Picture) (r : Result Message read.Refused) → TakesBy fault RecordShows IsRefusedBy index r v (Ok tt) w → taken_by fault index v r ≡ Ok w
shows_taken fault index v w (Ok message) (none, shows) =
    ap (λ o. unless_found o (applied index (shown_of v message.command message.orders))) none ∙ ap (applied index) shows
shows_taken fault index v w (Err refused) (is, same) = absurd cc

err_is : (x y : Finding) → ◌≡◌ {A = Result (Unit {0}) Finding} (Err x) (Err y) → x ≡ y
err_is x y e = cc

pub stops_taken : (fault : Fault) (index : ℕ) (v w : Picture) (finding : Finding) (r : Result Message read.Refused)
    → TakesBy fault RecordShows IsRefusedBy index r v (Err finding) w → taken_by fault index v r ≡ Err finding
stops_taken fault index v w finding (Ok message) (told, same) =
    elim told [
      | inl is ↦ ap (λ o. unless_found o (applied index (shown_of v message.command message.orders))) is
      | inr (none, (why, refuses, told_as)) ↦
          ap (λ o. unless_found o (applied index (shown_of v message.command message.orders))) none ∙ ap (applied index) refuses ∙ ap Err (sym told_as)
    ]
stops_taken fault index v w finding (Err refused) (is, same) = ap Err (sym (err_is finding (RecordRefused index (Read refused)) is))

same_after : (r : Result Picture Finding) (one other : Picture → Result Picture Finding) → ((w : Picture) → one w ≡ other w) → (r >>= one) ≡ (r >>= other)
same_after (Ok w) one other same = same w
same_after (Err finding) one other same = refl

is_first : (index : ℕ) (v : Picture) (records : List (List ℕ)) → all_taken_by (λ i command orders. command_fault i command) index v records ≡ taken_from index v records
is_first index v [] = refl
is_first index v (bytes ∷ others) =
    ap (λ r. r >>= λ next. all_taken_by (λ i command orders. command_fault i command) (index + 1) next others) (first_one index v (read_of v.geometry.mode bytes))
    ∙ same_after (taken index v (read_of v.geometry.mode bytes)) _ (λ next. taken_from (index + 1) next others) (λ next. is_first (index + 1) next others)

taken_all : (layout : Declaration) (records : List (List ℕ)) (v : Picture) → opening_of layout records ≡ Ok v
    → all_taken_by (λ i command orders. command_fault i command) 0 (new_picture layout.geometry) records ≡ Ok v
taken_all layout records v opens =
    let o : Opens layout records v = opens_so layout records v opens in
    is_first 0 (new_picture layout.geometry) records ∙ ap (taken_from 0 (new_picture layout.geometry)) o.parts ∙ o.takes

-- a new screen that took the records shows the picture that they open
pub shows_opened : (layout : Declaration) (records : List (List ℕ)) (old new : Picture) (result : Result (Unit {0}) Finding) → old ≡ new_picture layout.geometry
    → ShowsTaken old new records result → ShowsOpened layout records new
shows_opened layout records old new (Ok done) first shows v opens =
    ok_is new v (all_taken_by (λ i command orders. command_fault i command) 0 old records) shows
    (ap (λ z. all_taken_by (λ i command orders. command_fault i command) 0 z records) first ∙ taken_all layout records v opens)
shows_opened layout records old new (Err finding) first stands v opens =
    absurd (never finding v (sym stands ∙ ap (λ z. all_taken_by (λ i command orders. command_fault i command) 0 z records) first ∙ taken_all layout records v opens))
  where
    never : (finding : Finding) (v : Picture) → ◌≡◌ {A = Result Picture Finding} (Err finding) (Ok v) → ⊥
    never finding v e = cc

-- ---- a yes

append_later : {A : Type 0} (xs ys : List A) → xs ++ ys ≡ [] → ys ≡ []
append_later [] ys e = e
append_later (x ∷ xs) ys e = absurd cc

pub answers_with_pen : (layout : Declaration) (opened : Picture) → selectable_of opened.cells ≡ [] → AnswersForAny layout opened → AnswersWithPen layout opened
answers_with_pen layout opened safe any v places left aid long =
    let after = selecting_leaves opened v places safe left in
    (after, any (all_selected v places) after aid long)

pub yes_means_with_pen : YesMeansWithPen
yes_means_with_pen layout records law conforms before opened geometry leads =
    let same : opened ≡ conforms.picture =
    leads_once before opened conforms.picture records leads (leads_from_every layout records conforms.picture conforms.opens before geometry) in
    answers_with_pen layout opened (ap (λ (v : Picture). selectable_of v.cells) same ∙ conforms.safe)
    (λ v left aid long. yes_means_for_any layout records law (record { picture = conforms.picture; opens = conforms.opens; clean = conforms.clean }) before opened v aid geometry leads left long)

-- ---- the verdict

either_shown : (layout : Declaration) (v : Picture) (t : Bool) (place : ℕ) → Each (IsShown layout v) (option_to_list (cond t (Some (Selectable place)) None))
either_shown layout v true place = (tt, tt)
either_shown layout v false place = tt

fields_shown : (layout : Declaration) (v : Picture) (fields : List FieldAt) → Each (λ field. Each (IsShown layout v) (option_to_list (selectable_finding v.cells field))) fields
fields_shown layout v [] = tt
fields_shown layout v (field ∷ fields) = (either_shown layout v (is_selectable v.cells field) field.place, fields_shown layout v fields)

append_each : {X : Type 0} (P : X → Type 0) (xs ys : List X) → ((index : ℕ) (x : X) → slice_get xs index ≡ Some x → P x) → Each P ys
    → (index : ℕ) (x : X) → slice_get (xs ++ ys) index ≡ Some x → P x
append_each P [] ys first others index x there = each_at P ys index x others there
append_each P (a ∷ xs) ys first others zero x there = first zero x there
append_each P (a ∷ xs) ys first others (suc index) x there = append_each P xs ys (λ i y is. first (suc i) y is) others index x there

-- what is known of a verdict on records that open a picture: all that is listed
pub record IsListed (layout : Declaration) (records : List (List ℕ)) (v : Picture) (verdict : Verdict) : Type 0 where
  pub opens : opening_of layout records ≡ Ok v
  pub sound : IsSound v
  pub listed : findings_in verdict ≡ findings_of layout v ++ selectable_of v.cells
  pub yes : verdict ≡ Yes ↔ (findings_of layout v ++ selectable_of v.cells ≡ [])

pub listed_so : (lent layout : Declaration) (records : List (List ℕ)) (v shown : Picture) (verdict : Verdict) (findings all : List Finding) → lent ≡ layout → opening_of layout records ≡ Ok v → IsSound v
    → (v.size ≡ lent.size → findings ≡ findings_of lent v) → ShowsOpened layout records shown → all ≡ findings ++ selectable_of shown.cells
    → findings_in verdict ≡ all → (verdict ≡ Yes ↔ all ≡ []) → IsListed layout records v verdict
listed_so lent layout records v shown verdict findings all same opens sound found shows added listed means =
    let first : findings ≡ findings_of layout v = found_opened lent layout records v findings same opens found in
    let is : all ≡ findings_of layout v ++ selectable_of v.cells =
    added ∙ ap (λ l. l ++ selectable_of shown.cells) first ∙ ap (λ (p : Picture). findings_of layout v ++ selectable_of p.cells) (shows v opens) in
    record { opens = opens; sound = sound; listed = listed ∙ is; yes = subst (λ l. verdict ≡ Yes ↔ l ≡ []) is means }

module _ (layout : Declaration) (records : List (List ℕ)) (v : Picture) (verdict : Verdict) (l : IsListed layout records v verdict) where
  clean : verdict ≡ Yes → findings_of layout v ≡ []
  clean is = append_none (findings_of layout v) (selectable_of v.cells) (l.yes.0 is)

  safe : verdict ≡ Yes → selectable_of v.cells ≡ []
  safe is = append_later (findings_of layout v) (selectable_of v.cells) (l.yes.0 is)

  pub pen_listed : findings_in verdict ≡ answer_with_pen layout records
  pen_listed = l.listed ∙ sym (ap (told_with_pen layout) l.opens)

  pub pen_yes : verdict ≡ Yes ↔ ConformsWithPen layout records
  pen_yes = (
    λ is. record { picture = v; opens = l.opens; clean = clean is; safe = safe is },
    λ conforms.
        let same : conforms.picture ≡ v = ok_is conforms.picture v (opening_of layout records) conforms.opens l.opens in
        l.yes.1 (subst (λ (p : Picture). findings_of layout p ++ selectable_of p.cells ≡ []) same
        (ap (λ fs. fs ++ selectable_of conforms.picture.cells) conforms.clean ∙ conforms.safe)),
  )

  pub pen_promised : verdict ≡ Yes → IsPromised layout records
  pen_promised is = clean_promised layout records v l.opens l.sound (clean is)

  pub pen_for_any : verdict ≡ Yes → IsPromisedForAny layout records
  pen_for_any is = clean_for_any layout records v l.opens l.sound (clean is)

  pub pen_with_pen : verdict ≡ Yes → IsPromisedWithPen layout records
  pen_with_pen is =
      record {
        opened = v;
        opens = l.opens;
        promise = answers_with_pen layout v (safe is) (answers_for_any layout v (opened_so layout records v l.opens l.sound) (clean is));
      }

  pub pen_shown : AreShown layout records (findings_in verdict)
  pen_shown w opened index finding there =
      let same : v ≡ w = ok_is v w (opening_of layout records) l.opens opened in
      let free = (opened_ready layout records v l.opens).0 in
      subst (λ (p : Picture). IsShown layout p finding) same
      (append_each (IsShown layout v) (findings_of layout v) (selectable_of v.cells) (findings_shown layout v l.sound free)
      (each_flat (IsShown layout v) (λ field. option_to_list (selectable_finding v.cells field)) (fields_of v.cells) (fields_shown layout v (fields_of v.cells)))
      index finding (ap (λ fs. slice_get fs index) (sym l.listed) ∙ there))
