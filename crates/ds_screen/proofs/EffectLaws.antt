-- When a record has an effect, and where it is refused.
use Rattle.std.proofs.Common.{◌≡◌, ℕ, ◌<◌, ◌⊎◌, Bool, true, false, cond, ltb, List, [], ◌∷◌, ◌++◌, length, Option, Some, None, Result, Ok, Err, refl, sym, ◌∙◌, ap, subst, inl, inr}
use Rattle.std.proofs.lemmas.Bool.{cond-true, cond-false, cases_Bool, lt-ltb, ltb-true}
use Rattle.ds_codec.specs.declared.command.Command.{Command}
use Rattle.ds_codec.specs.declared.command.Command.TheVariants.{Write, EraseWrite, EraseWriteAlternate, EraseAllUnprotected, ReadBuffer, ReadModified, ReadModifiedAll, NoOperation}
use Rattle.ds_codec.specs.Order.{Item, Site, text, start_field, start_field_extended, set_buffer_address, set_attribute, modify_field, insert_cursor, program_tab, repeat_to_address, erase_unprotected_to_address, graphic_escape}
use Rattle.ds_screen.specs.declared.refused.Why.{Why}
use Rattle.ds_screen.specs.declared.refused.Why.TheVariants.{AddressOutside, NoFieldHere}
use Rattle.ds_screen.specs.declared.refused.Refused.{Refused}
use Rattle.ds_screen.specs.Picture.{Picture, cell_at}
use Rattle.ds_screen.specs.Fields.{is_attribute}
use Rattle.ds_screen.specs.Orders.{Writing, effect_of, fault_of, outside_of, tabbed, first_from}
use Rattle.ds_screen.specs.Records.{acts, unless, erased, finished, finishes, shown_of}
use Rattle.ds_screen.specs.Laws.{HasOneEffect, HasAddressInside, HaveAddressesInside, StandsOnField, StandOnFields, CanBeDone, CanBeApplied, HasEffectExactly, StopsAt, StopsAtLeast}
use Rattle.ds_screen.proofs.RuledLaws.{length-ruled}
use Rattle.ds_screen.proofs.ActLaws.{acts_stop, acts_end}

same_ok : {A B : Type 0} (x y : A) (r : Result A B) → r ≡ Ok x → r ≡ Ok y → x ≡ y
same_ok x y r first second = cc

pub one_effect : HasOneEffect
one_effect before after other message first second = same_ok after other (shown_of before message.command message.orders) first second

-- ---- the number of cells stays
tabbed_length : (w : Writing) (nulling : Bool) (attribute : Option ℕ) → length (tabbed w nulling attribute).cells ≡ length w.cells
tabbed_length w false attribute = refl
tabbed_length w true (Some e) = length-ruled (length w.cells) _
tabbed_length w true None = length-ruled (length w.cells) _

pub effect_length : (order : Item) (w : Writing) → length (effect_of order w).cells ≡ length w.cells
unfolding effect_of
effect_length (text run) w = length-ruled (length w.cells) _
effect_length (start_field attribute) w = length-ruled (length w.cells) _
effect_length (start_field_extended pairs) w = length-ruled (length w.cells) _
effect_length (set_buffer_address address) w = refl
effect_length (set_attribute kind value) w = refl
effect_length (modify_field pairs) w = length-ruled (length w.cells) _
effect_length insert_cursor w = refl
effect_length program_tab w = tabbed_length w w.nulling (first_from is_attribute w.cells w.address)
effect_length (repeat_to_address stop character) w = length-ruled (length w.cells) _
effect_length (erase_unprotected_to_address stop) w = length-ruled (length w.cells) _
effect_length (graphic_escape code) w = length-ruled (length w.cells) _

-- ---- an order is not at fault exactly where its address is inside and it stands on its attribute
inside_good : (n address : ℕ) → address < n → outside_of n address ≡ None
inside_good n address lt = cond-true (ltb address n) _ _ (lt-ltb address n lt)

pub good_inside : (n address : ℕ) → outside_of n address ≡ None → address < n
good_inside n address good =
    elim (cases_Bool (ltb address n)) [
      | inl lt ↦ ltb-true address n lt
      | inr far ↦ let bad : Some AddressOutside ≡ None = sym (cond-false (ltb address n) _ _ far) ∙ good in absurd cc
    ]

there_good : (t : Bool) → t ≡ true → cond t None (Some NoFieldHere) ≡ None
there_good true e = refl
there_good false e = absurd cc

good_there : (t : Bool) → cond t None (Some NoFieldHere) ≡ None → t ≡ true
good_there true e = refl
good_there false e = absurd cc

no_fault : (order : Item) (w : Writing) → HasAddressInside (length w.cells) order → StandsOnField order w → fault_of order w ≡ None
unfolding fault_of
no_fault (text run) w inside stands = refl
no_fault (start_field attribute) w inside stands = refl
no_fault (start_field_extended pairs) w inside stands = refl
no_fault (set_buffer_address address) w inside stands = inside_good (length w.cells) address inside
no_fault (set_attribute kind value) w inside stands = refl
no_fault (modify_field pairs) w inside stands = there_good (is_attribute (cell_at w.cells w.address)) stands
no_fault insert_cursor w inside stands = refl
no_fault program_tab w inside stands = refl
no_fault (repeat_to_address stop character) w inside stands = inside_good (length w.cells) stop inside
no_fault (erase_unprotected_to_address stop) w inside stands = inside_good (length w.cells) stop inside
no_fault (graphic_escape code) w inside stands = refl

can_act : (order : Item) (w : Writing) → fault_of order w ≡ None → HasAddressInside (length w.cells) order × StandsOnField order w
unfolding fault_of
can_act (text run) w good = (tt, tt)
can_act (start_field attribute) w good = (tt, tt)
can_act (start_field_extended pairs) w good = (tt, tt)
can_act (set_buffer_address address) w good = (good_inside (length w.cells) address good, tt)
can_act (set_attribute kind value) w good = (tt, tt)
can_act (modify_field pairs) w good = (tt, good_there (is_attribute (cell_at w.cells w.address)) good)
can_act insert_cursor w good = (tt, tt)
can_act program_tab w good = (tt, tt)
can_act (repeat_to_address stop character) w good = (good_inside (length w.cells) stop good, tt)
can_act (erase_unprotected_to_address stop) w good = (good_inside (length w.cells) stop good, tt)
can_act (graphic_escape code) w good = (tt, tt)

-- ---- orders in turn
acts_more : (site : Site) (sites : List Site) (w : Writing) → fault_of site.order w ≡ None → acts (site ∷ sites) w ≡ acts sites (effect_of site.order w)
unfolding acts
acts_more site sites w good = ap (λ f. unless f site.at (acts sites (effect_of site.order w))) good

done : (sites : List Site) (w : Writing) (n : ℕ) → n ≡ length w.cells → HaveAddressesInside n sites → StandOnFields sites w → (end : Writing) × (acts sites w ≡ Ok end)
done [] w n len inside stands = (w, acts_end w)
done (site ∷ sites) w n len inside stands =
    let good : fault_of site.order w ≡ None = no_fault site.order w (subst (λ m. HasAddressInside m site.order) len inside.0) stands.0 in
    let rest = done sites (effect_of site.order w) n (len ∙ sym (effect_length site.order w)) inside.1 stands.1 in
    (rest.0, acts_more site sites w good ∙ rest.1)

not_both : (r : Result Writing Refused) (refused : Refused) (w : Writing) → r ≡ Err refused → r ≡ Ok w → ⊥
not_both r refused w bad good = cc

same_refused : (r : Result Writing Refused) (x y : Refused) → r ≡ Err x → r ≡ Err y → x ≡ y
same_refused r x y first second = cc

option_cases : (o : Option Why) → (o ≡ None) ⊎ ((why : Why) × (o ≡ Some why))
option_cases None = inl refl
option_cases (Some why) = inr (why, refl)

was_done : (sites : List Site) (w end : Writing) (n : ℕ) → n ≡ length w.cells → acts sites w ≡ Ok end → HaveAddressesInside n sites × StandOnFields sites w
was_done [] w end n len is = (tt, tt)
was_done (site ∷ sites) w end n len is =
    elim (option_cases (fault_of site.order w)) [
      | inl good ↦
          let here = can_act site.order w good in
          let rest = was_done sites (effect_of site.order w) end n (len ∙ sym (effect_length site.order w)) (sym (acts_more site sites w good) ∙ is) in
          ((subst (λ m. HasAddressInside m site.order) (sym len) here.0, rest.0), (here.1, rest.1))
      | inr bad ↦ absurd (not_both (acts (site ∷ sites) w) _ end (acts_stop site sites w bad.0 bad.1) is)
    ]

can_finish : (wcc : ℕ) (v : Picture) (sites : List Site) (w : Writing) → CanBeDone sites w → (after : Picture) × (finishes wcc v (acts sites w) ≡ Ok after)
can_finish wcc v sites w can =
    let end = done sites w (length w.cells) refl can.0 can.1 in
    (finished wcc v end.0, ap (finishes wcc v) end.1)

finished_ok : (wcc : ℕ) (v after : Picture) (r : Result Writing Refused) → finishes wcc v r ≡ Ok after → (end : Writing) × (r ≡ Ok end)
finished_ok wcc v after (Ok end) is = (end, refl)
finished_ok wcc v after (Err refused) is = absurd cc

did_finish : (wcc : ℕ) (v after : Picture) (sites : List Site) (w : Writing) → finishes wcc v (acts sites w) ≡ Ok after → CanBeDone sites w
did_finish wcc v after sites w is =
    let end = finished_ok wcc v after (acts sites w) is in
    was_done sites w end.0 (length w.cells) refl end.1

can_show : (v : Picture) (command : Command) (orders : List Site) → CanBeApplied v command orders → (after : Picture) × (shown_of v command orders ≡ Ok after)
unfolding shown_of
can_show v (Write wcc) orders can = can_finish wcc v orders _ can
can_show v (EraseWrite wcc) orders can = can_finish wcc (erased v.geometry.default v) orders _ can
can_show v (EraseWriteAlternate wcc) orders can = can_finish wcc (erased v.geometry.alternate v) orders _ can
can_show v EraseAllUnprotected orders can = (_, refl)
can_show v ReadBuffer orders can = absurd can
can_show v ReadModified orders can = absurd can
can_show v ReadModifiedAll orders can = absurd can
can_show v NoOperation orders can = absurd can

did_show : (v : Picture) (command : Command) (orders : List Site) (after : Picture) → shown_of v command orders ≡ Ok after → CanBeApplied v command orders
unfolding shown_of
did_show v (Write wcc) orders after is = did_finish wcc v after orders _ is
did_show v (EraseWrite wcc) orders after is = did_finish wcc (erased v.geometry.default v) after orders _ is
did_show v (EraseWriteAlternate wcc) orders after is = did_finish wcc (erased v.geometry.alternate v) after orders _ is
did_show v EraseAllUnprotected orders after is = tt
did_show v ReadBuffer orders after is = absurd cc
did_show v ReadModified orders after is = absurd cc
did_show v ReadModifiedAll orders after is = absurd cc
did_show v NoOperation orders after is = absurd cc

pub effect_exactly : HasEffectExactly
effect_exactly before message =
    (λ can. can_show before message.command message.orders can, λ shows. did_show before message.command message.orders shows.0 shows.1)

-- ---- where orders are refused
stops : (orders : List Site) (start : Writing) (refused : Refused) → acts orders start ≡ Err refused → StopsAt orders start refused
stops [] start refused is = absurd (not_both (acts [] start) refused start is (acts_end start))
stops (site ∷ sites) start refused is =
    elim (option_cases (fault_of site.order start)) [
      | inl good ↦
          let rest = stops sites (effect_of site.order start) refused (sym (acts_more site sites start good) ∙ is) in
          record {
            early = site ∷ rest.early;
            site = rest.site;
            late = rest.late;
            before = rest.before;
            parts = ap (λ xs. site ∷ xs) rest.parts;
            acted = acts_more site rest.early start good ∙ rest.acted;
            fault = rest.fault;
            place = rest.place;
          }
      | inr bad ↦
          let same : refused ≡ record { at = site.at; why = bad.0 } = same_refused (acts (site ∷ sites) start) _ _ is (acts_stop site sites start bad.0 bad.1) in
          record {
            early = [];
            site = site;
            late = sites;
            before = start;
            parts = refl;
            acted = acts_end start;
            fault = bad.1 ∙ ap (λ r. Some r.why) (sym same);
            place = ap (λ r. r.at) same;
          }
    ]

stopped : (early : List Site) (site : Site) (late : List Site) (start before : Writing) (refused : Refused) → acts early start ≡ Ok before
    → fault_of site.order before ≡ Some refused.why → refused.at ≡ site.at → acts (early ++ site ∷ late) start ≡ Err refused
stopped [] site late start before refused acted fault place =
    let same : start ≡ before = same_ok start before (acts [] start) (acts_end start) acted in
    acts_stop site late start refused.why (ap (fault_of site.order) same ∙ fault) ∙ ap (λ at. Err (record { at = at; why = refused.why })) (sym place)
stopped (first ∷ early) site late start before refused acted fault place =
    elim (option_cases (fault_of first.order start)) [
      | inl good ↦
          acts_more first (early ++ site ∷ late) start good
          ∙ stopped early site late (effect_of first.order start) before refused (sym (acts_more first early start good) ∙ acted) fault place
      | inr bad ↦ absurd (not_both (acts (first ∷ early) start) _ before (acts_stop first early start bad.0 bad.1) acted)
    ]

pub stops_at_least : StopsAtLeast
stops_at_least orders start refused = (
  λ is. stops orders start refused is,
  λ s. ap (λ xs. acts xs start) s.parts ∙ stopped s.early s.site s.late start s.before refused s.acted s.fault s.place,
)
