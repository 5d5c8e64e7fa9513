-- What was reached where a record may wait.
use Rattle.std.proofs.Common.{◌≡◌, ℕ, Bool, true, false, cond, List, [], ◌∷◌, length, replicate, Option, Some, None, Result, Ok, Err, refl, sym, ◌∙◌, ap, subst, inl, inr}
use Rattle.std.proofs.lemmas.List.{length-replicate}
use Rattle.std.proofs.lemmas.Bool.{cases_Bool, and_parts, ltb-true}
use Rattle.ds_codec.specs.declared.refused.Refused as read
use Rattle.ds_codec.specs.declared.command.Command.{Command}
use Rattle.ds_codec.specs.declared.command.Command.TheVariants.{Write, EraseWrite, EraseWriteAlternate, EraseAllUnprotected, ReadBuffer, ReadModified, ReadModifiedAll, NoOperation}
use Rattle.ds_codec.specs.Geometry.{Sizes, cells_of}
use Rattle.ds_codec.specs.WriteControl.{resets_modified_tags, restores_keyboard}
use Rattle.ds_codec.specs.Order.{Item, text, start_field, start_field_extended, set_buffer_address, set_attribute, modify_field, insert_cursor, program_tab, repeat_to_address, erase_unprotected_to_address, graphic_escape, Site}
use Rattle.ds_codec.specs.Record.{Message}
use Rattle.ds_codec.specs.Reading.{read_of}
use Rattle.ds_codec.specs.Surely.{is_surely_done, are_surely_done}
use Rattle.ds_screen.specs.declared.refused.Refused as shown
use Rattle.ds_screen.specs.Picture.{Picture, blank}
use Rattle.ds_screen.specs.Orders.{Writing, effect_of}
use Rattle.ds_screen.specs.Records.{RecordShows, erased, begun, finishes, acts, shown_of}
use Rattle.ds_screen.specs.Outline.{Outlined, IsOutlineOf}
use Rattle.ds_screen.specs.Laws.{HasAddressInside, HaveAddressesInside, StandsOnField, StandOnFields, CanBeDone, CanBeApplied}
use Rattle.ds_screen.proofs.RuledLaws.{length-ruled}
use Rattle.ds_screen.proofs.EffectLaws.{effect_exactly}
use Rattle.ds_terminal.specs.declared.refused.Refused.{Refused}
use Rattle.ds_terminal.specs.declared.refused.Refused.TheVariants.{Read}
use Rattle.ds_terminal.specs.Taking.{reading}
use Rattle.scr_check.specs.declared.finding.Finding.{Finding}
use Rattle.scr_check.specs.declared.finding.Finding.TheVariants.{RecordRefused}
use Rattle.scr_check.specs.Opening.{command_fault, applied, unless_found, taken}
use Rattle.scr_check.specs.Checker.{Reach, IsReachedBy, CatchesUp, cells_anew, AppliesOn, TakesAnew, TakesFrom}
use Rattle.scr_check.proofs.LeadLaws.{shown_geometry}

-- ---- a record that begins anew leads to the same picture, whatever was shown
anew_finished : (wcc : ℕ) (u v : Picture) (r : Result Writing shown.Refused) → u.geometry ≡ v.geometry → u.size ≡ v.size → restores_keyboard wcc ≡ true
    → finishes wcc u r ≡ finishes wcc v r
anew_finished wcc u v (Err refused) geometry size restores = refl
anew_finished wcc u v (Ok w) geometry size restores = rw (restores, geometry, size) refl

anew_if : (t : Bool) (n cells : ℕ) → cond t (Some n) None ≡ Some cells → (t ≡ true) × (n ≡ cells)
anew_if true n cells is = (refl, cc)
anew_if false n cells is = absurd cc

pub anew_alike : (u v : Picture) (command : Command) (orders : List Site) (cells : ℕ) → u.geometry ≡ v.geometry → cells_anew v.geometry command ≡ Some cells
    → shown_of u command orders ≡ shown_of v command orders
unfolding shown_of
anew_alike u v (EraseWrite wcc) orders cells same anew =
    ap (λ (g : Sizes). finishes wcc (erased g.default u) (acts orders (begun wcc (replicate (cells_of g.default) blank) 0))) same
    ∙ anew_finished wcc (erased v.geometry.default u) (erased v.geometry.default v) _ same refl (anew_if (restores_keyboard wcc) (cells_of v.geometry.default) cells anew).0
anew_alike u v (EraseWriteAlternate wcc) orders cells same anew =
    ap (λ (g : Sizes). finishes wcc (erased g.alternate u) (acts orders (begun wcc (replicate (cells_of g.alternate) blank) 0))) same
    ∙ anew_finished wcc (erased v.geometry.alternate u) (erased v.geometry.alternate v) _ same refl (anew_if (restores_keyboard wcc) (cells_of v.geometry.alternate) cells anew).0
anew_alike u v (Write wcc) orders cells same anew = absurd cc
anew_alike u v EraseAllUnprotected orders cells same anew = absurd cc
anew_alike u v ReadBuffer orders cells same anew = absurd cc
anew_alike u v ReadModified orders cells same anew = absurd cc
anew_alike u v ReadModifiedAll orders cells same anew = absurd cc
anew_alike u v NoOperation orders cells same anew = absurd cc

-- ---- orders that are surely done
one_inside : (n : ℕ) (order : Item) → is_surely_done n order ≡ true → HasAddressInside n order
one_inside n (set_buffer_address address) is = ltb-true address n is
one_inside n (repeat_to_address address character) is = ltb-true address n is
one_inside n (erase_unprotected_to_address address) is = ltb-true address n is
one_inside n (text run) is = tt
one_inside n (start_field attribute) is = tt
one_inside n (start_field_extended pairs) is = tt
one_inside n (set_attribute kind value) is = tt
one_inside n (modify_field pairs) is = tt
one_inside n insert_cursor is = tt
one_inside n program_tab is = tt
one_inside n (graphic_escape code) is = tt

one_stands : (n : ℕ) (order : Item) (w : Writing) → is_surely_done n order ≡ true → StandsOnField order w
one_stands n (modify_field pairs) w is = absurd cc
one_stands n (set_buffer_address address) w is = tt
one_stands n (repeat_to_address address character) w is = tt
one_stands n (erase_unprotected_to_address address) w is = tt
one_stands n (text run) w is = tt
one_stands n (start_field attribute) w is = tt
one_stands n (start_field_extended pairs) w is = tt
one_stands n (set_attribute kind value) w is = tt
one_stands n insert_cursor w is = tt
one_stands n program_tab w is = tt
one_stands n (graphic_escape code) w is = tt

all_inside : (n : ℕ) (orders : List Site) → are_surely_done n orders ≡ true → HaveAddressesInside n orders
all_inside n [] all = tt
all_inside n (site ∷ sites) all = let both = and_parts (is_surely_done n site.order) (are_surely_done n sites) all in (one_inside n site.order both.0, all_inside n sites both.1)

all_stand : (n : ℕ) (orders : List Site) (w : Writing) → are_surely_done n orders ≡ true → StandOnFields orders w
all_stand n [] w all = tt
all_stand n (site ∷ sites) w all =
    let both = and_parts (is_surely_done n site.order) (are_surely_done n sites) all in
    (one_stands n site.order w both.0, all_stand n sites (effect_of site.order w) both.1)

begun_length : (wcc n : ℕ) → length (begun wcc (replicate n blank) 0).cells ≡ n
begun_length wcc n = elim (cases_Bool (resets_modified_tags wcc)) [
  | inl does ↦ rw does (length-ruled (length (replicate n blank)) _ ∙ length-replicate n blank)
  | inr none ↦ rw none (length-replicate n blank)
]

can_be_done : (wcc n : ℕ) (orders : List Site) → are_surely_done n orders ≡ true → CanBeDone orders (begun wcc (replicate n blank) 0)
can_be_done wcc n orders all =
    (subst (λ m. HaveAddressesInside m orders) (sym (begun_length wcc n)) (all_inside n orders all), all_stand n orders (begun wcc (replicate n blank) 0) all)

can_be_applied : (v : Picture) (command : Command) (orders : List Site) (cells : ℕ) → cells_anew v.geometry command ≡ Some cells → are_surely_done cells orders ≡ true
    → CanBeApplied v command orders
can_be_applied v (EraseWrite wcc) orders cells anew all =
    can_be_done wcc (cells_of v.geometry.default) orders (rw ((anew_if (restores_keyboard wcc) (cells_of v.geometry.default) cells anew).1) all)
can_be_applied v (EraseWriteAlternate wcc) orders cells anew all =
    can_be_done wcc (cells_of v.geometry.alternate) orders (rw ((anew_if (restores_keyboard wcc) (cells_of v.geometry.alternate) cells anew).1) all)
can_be_applied v (Write wcc) orders cells anew all = absurd cc
can_be_applied v EraseAllUnprotected orders cells anew all = absurd cc
can_be_applied v ReadBuffer orders cells anew all = absurd cc
can_be_applied v ReadModified orders cells anew all = absurd cc
can_be_applied v ReadModifiedAll orders cells anew all = absurd cc
can_be_applied v NoOperation orders cells anew all = absurd cc

-- ---- what was reached
pub reached_about : (outline : Outlined) (waiting : Option (List ℕ)) (v : Picture) → IsReachedBy outline waiting v → (u : Picture) × IsOutlineOf outline u × (u.geometry ≡ v.geometry)
reached_about outline None v is = (v, is, refl)
reached_about outline (Some bytes) v (before, message, outlines, reads, shows) =
    (before, outlines, sym (shown_geometry before v message.command message.orders shows))

pub reached_geometry : (outline : Outlined) (waiting : Option (List ℕ)) (v : Picture) → IsReachedBy outline waiting v → outline.geometry ≡ v.geometry
reached_geometry outline waiting v is = let about = reached_about outline waiting v is in about.1.geometry ∙ about.2

-- a record that begins anew and is surely done waits
pub waits : (index : ℕ) (before after : Reach) (bytes : List ℕ) (cells : ℕ) (message : Message) → are_surely_done cells message.orders ≡ true
    → after.outline ≡ before.outline → after.waiting ≡ Some bytes → TakesAnew index before bytes cells message (Ok tt) after
waits index before after bytes cells message sure same waiting = λ v is anew.
    let about = reached_about before.outline before.waiting v is in
    let leads = (effect_exactly v message).0 (can_be_applied v message.command message.orders cells anew.anew sure) in
    let reads : read_of about.0.geometry.mode bytes ≡ Ok message = ap (λ (g : Sizes). read_of g.mode bytes) about.2 ∙ anew.reads in
    let shows : RecordShows about.0 message leads.0 = anew_alike about.0 v message.command message.orders cells about.2 anew.anew ∙ leads.1 in
    (leads.0, leads.1, rw (same, waiting) (about.0, message, about.1, reads, shows))

-- ---- one that begins anew is applied to whatever is outlined
pub anew_on : (index : ℕ) (before after : Reach) (bytes : List ℕ) (cells : ℕ) (message : Message) (result : Result (Unit {0}) Finding) → after.waiting ≡ None
    → AppliesOn index before.outline message result after.outline → TakesAnew index before bytes cells message result after
anew_on index before after bytes cells message (Ok done) none applies = λ v is anew.
    let about = reached_about before.outline before.waiting v is in
    let next = applies about.0 about.1 in
    (next.0, sym (anew_alike about.0 v message.command message.orders cells about.2 anew.anew) ∙ next.1, rw none next.2)
anew_on index before after bytes cells message (Err finding) none applies = λ v is anew.
    let about = reached_about before.outline before.waiting v is in
    ap (applied index) (sym (anew_alike about.0 v message.command message.orders cells about.2 anew.anew)) ∙ applies about.0 about.1

-- ---- the record of a number, read on what was reached
reading_ok : (r : Result Message read.Refused) (message : Message) → reading r ≡ Ok message → r ≡ Ok message
reading_ok (Ok other) message is = cc
reading_ok (Err e) message is = absurd cc

reading_err : (index : ℕ) (v : Picture) (r : Result Message read.Refused) (refused : Refused) → reading r ≡ Err refused → taken index v r ≡ Err (RecordRefused index refused)
reading_err index v (Ok message) refused is = absurd cc
reading_err index v (Err e) refused is = let same : Read e ≡ refused = cc in ap (λ (f : Refused). Err (RecordRefused index f)) same

module _ (index : ℕ) (before after : Reach) (bytes : List ℕ) (outline : Outlined) (same : outline ≡ before.outline) where
  read_here : (v : Picture) → IsReachedBy before.outline before.waiting v → read_of outline.geometry.mode bytes ≡ read_of v.geometry.mode bytes
  read_here v is = ap (λ (o : Outlined). read_of o.geometry.mode bytes) same ∙ ap (λ (g : Sizes). read_of g.mode bytes) (reached_geometry before.outline before.waiting v is)

  pub not_read : (refused : Refused) → reading (read_of outline.geometry.mode bytes) ≡ Err refused → TakesFrom index before bytes (Err (RecordRefused index refused)) after
  not_read refused is = λ v reached. ap (taken index v) (sym (read_here v reached)) ∙ reading_err index v (read_of outline.geometry.mode bytes) refused is

  module _ (message : Message) (reads : reading (read_of outline.geometry.mode bytes) ≡ Ok message) where
    message_here : (v : Picture) → IsReachedBy before.outline before.waiting v → read_of v.geometry.mode bytes ≡ Ok message
    message_here v is = sym (read_here v is) ∙ reading_ok (read_of outline.geometry.mode bytes) message reads

    taken_here : (v : Picture) → IsReachedBy before.outline before.waiting v
        → taken index v (read_of v.geometry.mode bytes) ≡ unless_found (command_fault index message.command) (applied index (shown_of v message.command message.orders))
    taken_here v is = ap (taken index v) (message_here v is)

    pub at_fault : (finding : Finding) → command_fault index message.command ≡ Some finding → TakesFrom index before bytes (Err finding) after
    at_fault finding fault = λ v is. taken_here v is ∙ ap (λ f. unless_found f (applied index (shown_of v message.command message.orders))) fault

    module _ (none : command_fault index message.command ≡ None) where
      goes_on : (v : Picture) → IsReachedBy before.outline before.waiting v → taken index v (read_of v.geometry.mode bytes) ≡ applied index (shown_of v message.command message.orders)
      goes_on v is = taken_here v is ∙ ap (λ f. unless_found f (applied index (shown_of v message.command message.orders))) none

      pub anew_taken : (cells : ℕ) (result : Result (Unit {0}) Finding) → cells_anew outline.geometry message.command ≡ Some cells
          → TakesAnew index before bytes cells message result after → TakesFrom index before bytes result after
      anew_taken cells (Ok done) anew takes = λ v is.
          let there : cells_anew v.geometry message.command ≡ Some cells =
          ap (λ (g : Sizes). cells_anew g message.command) (sym (ap (λ (o : Outlined). o.geometry) same ∙ reached_geometry before.outline before.waiting v is)) ∙ anew in
          let next = takes v is (record { reads = message_here v is; anew = there }) in
          (next.0, goes_on v is ∙ ap (applied index) next.1, next.2)
      anew_taken cells (Err finding) anew takes = λ v is.
          let there : cells_anew v.geometry message.command ≡ Some cells =
          ap (λ (g : Sizes). cells_anew g message.command) (sym (ap (λ (o : Outlined). o.geometry) same ∙ reached_geometry before.outline before.waiting v is)) ∙ anew in
          goes_on v is ∙ takes v is (record { reads = message_here v is; anew = there })

      pub caught_taken : (caught : Outlined) (result : Result (Unit {0}) Finding) → CatchesUp before caught → AppliesOn index caught message result after.outline → after.waiting ≡ None
          → TakesFrom index before bytes result after
      caught_taken caught (Ok done) catches applies nothing = λ v is.
          let next = applies v (catches v is) in
          (next.0, goes_on v is ∙ ap (applied index) next.1, rw nothing next.2)
      caught_taken caught (Err finding) catches applies nothing = λ v is. goes_on v is ∙ applies v (catches v is)
