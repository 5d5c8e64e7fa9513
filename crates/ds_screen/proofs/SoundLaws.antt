-- What a record leaves of a sound picture is sound.
use Rattle.std.proofs.Common.{◌≡◌, ℕ, ◌+◌, ◌%◌, ◌<◌, ◌≤◌, ◌⊎◌, Bool, true, false, List, [], ◌∷◌, length, Option, Some, None, Result, Ok, Err, refl, sym, ◌∙◌, subst, arith, inl, inr}
use Rattle.std.specs.Option.{option_map, unwrap_or}
use Rattle.std.proofs.lemmas.Bool.{cond_both}
use Rattle.std.proofs.lemmas.List.{length-replicate}
use Rattle.std.proofs.Math.Nat.{mul-le-mul_left}
use Rattle.ds_codec.specs.declared.cell.Cell.{Cell}
use Rattle.ds_codec.specs.declared.size.Mode.{Mode}
use Rattle.ds_codec.specs.declared.size.Size.{Size}
use Rattle.ds_codec.specs.declared.command.Command.{Command}
use Rattle.ds_codec.specs.declared.command.Command.TheVariants.{Write, EraseWrite, EraseWriteAlternate, EraseAllUnprotected, ReadBuffer, ReadModified, ReadModifiedAll, NoOperation}
use Rattle.ds_codec.specs.Aid.{is_aid}
use Rattle.ds_codec.specs.Command.{wcc_of}
use Rattle.ds_codec.specs.Geometry.{IsGood, cells_of}
use Rattle.ds_codec.specs.Order.{Item, Site, text, start_field, start_field_extended, set_buffer_address, set_attribute, modify_field, insert_cursor, program_tab, repeat_to_address, erase_unprotected_to_address, graphic_escape}
use Rattle.ds_codec.specs.Record.{SpellsRest}
use Rattle.ds_screen.specs.declared.refused.Why.{Why}
use Rattle.ds_screen.specs.declared.refused.Refused.{Refused}
use Rattle.ds_screen.specs.Ring.{ring_on}
use Rattle.ds_screen.specs.Picture.{Picture, IsSound, blank}
use Rattle.ds_screen.specs.Fields.{is_attribute, is_open, first_open}
use Rattle.ds_screen.specs.Orders.{Writing, first_from, is_unprotected_attribute, tab_stop, tabbed, effect_of, fault_of}
use Rattle.ds_codec.specs.WriteControl.{resets_modified_tags, restores_keyboard}
use Rattle.ds_screen.specs.Records.{erased, begun, finished, unless, acts, finishes, cleared_cell, all_cleared, shown_of}
use Rattle.ds_screen.specs.State.{HasCharacters, HaveCharacters}
use Rattle.ds_screen.specs.Laws.{RecordsStaySound}
use Rattle.ds_screen.proofs.RingLaws.{on_lt, least_found, least_none, search_cases}
use Rattle.ds_screen.proofs.RuledLaws.{length-ruled}
use Rattle.ds_screen.proofs.TabLaws.{behind_lt}
use Rattle.ds_screen.proofs.ActLaws.{spelled_characters}
use Rattle.ds_screen.proofs.EffectLaws.{effect_length, good_inside}
use Rattle.ds_screen.proofs.CharacterLaws.{AreReal, each_real, all_real, effect_real, begun_real, nulls_real, cleared_real}

same_ok : {A E : Type 0} (x y : A) (r : Result A E) → r ≡ Ok x → r ≡ Ok y → x ≡ y
same_ok x y r first second = cc

-- ---- what orders work on
pub record IsWorkable (n : ℕ) (w : Writing) : Type 0 where
  pub whole : length w.cells ≡ n
  pub real : AreReal w.cells
  pub cursor : w.cursor < n
  pub address : w.address < n

on_next : (n : ℕ) (w : Writing) → IsWorkable n w → ring_on (length w.cells) w.address 1 < n
on_next n w good = let P : ℕ → Type 0 = λ m. ring_on m w.address 1 < n in subst P (sym good.whole) (on_lt n w.address 1 good.address (omega (arith, good.address)))

mod_lt : (x n : ℕ) → 0 < n → x % n < n
mod_lt x n some = omega arith

on_text : (n k : ℕ) (w : Writing) → IsWorkable n w → (w.address + k) % length w.cells < n
on_text n k w good = let P : ℕ → Type 0 = λ m. (w.address + k) % m < n in subst P (sym good.whole) (mod_lt (w.address + k) n (omega (arith, good.address)))

stop_lt : (n : ℕ) (w : Writing) → IsWorkable n w → tab_stop w.cells w.address < n
stop_lt n w good =
    let P : ℕ → Type 0 = λ m. tab_stop w.cells w.address < m in
    subst P good.whole (behind_lt is_unprotected_attribute w.cells w.address (omega (arith, good.address, good.whole)))

tab_address : (n : ℕ) (w : Writing) (nulling : Bool) (attribute : Option ℕ) → IsWorkable n w → (tabbed w nulling attribute).address < n
tab_address n w false attribute good = stop_lt n w good
tab_address n w true (Some e) good = stop_lt n w good
tab_address n w true None good = omega (arith, good.address)

tab_cursor : (w : Writing) (nulling : Bool) (attribute : Option ℕ) → (tabbed w nulling attribute).cursor ≡ w.cursor
tab_cursor w false attribute = refl
tab_cursor w true (Some e) = refl
tab_cursor w true None = refl

below_length : (n address : ℕ) (w : Writing) → IsWorkable n w → address < length w.cells → address < n
below_length n address w good lt = omega (arith, good.whole)

-- where an order leaves the buffer address and the cursor
effect_address : (n : ℕ) (order : Item) (w : Writing) → fault_of order w ≡ None → IsWorkable n w → (effect_of order w).address < n
unfolding effect_of fault_of
effect_address n (text run) w fits good = on_text n (length run) w good
effect_address n (start_field attribute) w fits good = on_next n w good
effect_address n (start_field_extended pairs) w fits good = on_next n w good
effect_address n (set_buffer_address address) w fits good = below_length n address w good (good_inside (length w.cells) address fits)
effect_address n (set_attribute kind value) w fits good = good.address
effect_address n (modify_field pairs) w fits good = on_next n w good
effect_address n insert_cursor w fits good = good.address
effect_address n program_tab w fits good = tab_address n w w.nulling (first_from is_attribute w.cells w.address) good
effect_address n (repeat_to_address stop character) w fits good = below_length n stop w good (good_inside (length w.cells) stop fits)
effect_address n (erase_unprotected_to_address stop) w fits good = below_length n stop w good (good_inside (length w.cells) stop fits)
effect_address n (graphic_escape code) w fits good = on_next n w good

effect_cursor : (n : ℕ) (order : Item) (w : Writing) → IsWorkable n w → (effect_of order w).cursor < n
unfolding effect_of
effect_cursor n (text run) w good = good.cursor
effect_cursor n (start_field attribute) w good = good.cursor
effect_cursor n (start_field_extended pairs) w good = good.cursor
effect_cursor n (set_buffer_address address) w good = good.cursor
effect_cursor n (set_attribute kind value) w good = good.cursor
effect_cursor n (modify_field pairs) w good = good.cursor
effect_cursor n insert_cursor w good = good.address
effect_cursor n program_tab w good = rw (tab_cursor w w.nulling (first_from is_attribute w.cells w.address)) good.cursor
effect_cursor n (repeat_to_address stop character) w good = good.cursor
effect_cursor n (erase_unprotected_to_address stop) w good = good.cursor
effect_cursor n (graphic_escape code) w good = good.cursor

pub effect_works : (n : ℕ) (order : Item) (w : Writing) → HasCharacters order → fault_of order w ≡ None → IsWorkable n w → IsWorkable n (effect_of order w)
effect_works n order w real fits good =
    record {
      whole = effect_length order w ∙ good.whole;
      real = effect_real order w real good.real;
      cursor = effect_cursor n order w good;
      address = effect_address n order w fits good;
    }

unless_ok : (o : Option Why) (at : ℕ) (r : Result Writing Refused) (w : Writing) → unless o at r ≡ Ok w → (o ≡ None) × (r ≡ Ok w)
unless_ok None at r w is = (refl, is)
unless_ok (Some why) at r w is = absurd cc

acts_work : (n : ℕ) (sites : List Site) (w end : Writing) → HaveCharacters sites → IsWorkable n w → acts sites w ≡ Ok end → IsWorkable n end
unfolding acts
acts_work n [] w end real good is = subst (IsWorkable n) (same_ok w end (Ok w) refl is) good
acts_work n (site ∷ sites) w end real good is =
    let parts = unless_ok (fault_of site.order w) site.at (acts sites (effect_of site.order w)) end is in
    acts_work n sites (effect_of site.order w) end real.1 (effect_works n site.order w real.0 parts.0 good) parts.1

begun_whole : (wcc : ℕ) (cells : List Cell) (cursor : ℕ) → length (begun wcc cells cursor).cells ≡ length cells
begun_whole wcc cells cursor = cond_both (resets_modified_tags wcc) _ cells (λ (made : List Cell). length made ≡ length cells) (λ does. length-ruled (length cells) _) (λ none. refl)

pub begun_works : (wcc : ℕ) (v : Picture) → IsSound v → IsWorkable (cells_of v.size) (begun wcc v.cells v.cursor)
begun_works wcc v sound =
    record {
      whole = begun_whole wcc v.cells v.cursor ∙ sound.whole;
      real = begun_real wcc v.cells v.cursor (each_real v.cells sound.characters);
      cursor = sound.cursor_inside;
      address = sound.cursor_inside;
    }

-- ---- pictures
pub no_key : is_aid 0x60 ≡ true
unfolding is_aid
no_key = refl

finished_sound : (wcc : ℕ) (v : Picture) (w : Writing) → IsSound v → IsWorkable (cells_of v.size) w → IsSound (finished wcc v w)
finished_sound wcc v w sound good =
    record {
      default_good = sound.default_good;
      alternate_good = sound.alternate_good;
      one_of_two = sound.one_of_two;
      whole = good.whole;
      cursor_inside = good.cursor;
      characters = all_real w.cells good.real;
      attention = cond_both (restores_keyboard wcc) 0x60 v.aid (λ aid. is_aid aid ≡ true) (λ does. no_key) (λ none. sound.attention);
    }

finishes_sound : (wcc : ℕ) (v w : Picture) (r : Result Writing Refused) → IsSound v → ((end : Writing) → r ≡ Ok end → IsWorkable (cells_of v.size) end)
    → finishes wcc v r ≡ Ok w → IsSound w
finishes_sound wcc v w (Ok end) sound works is = subst IsSound (same_ok (finished wcc v end) w (finishes wcc v (Ok end)) refl is) (finished_sound wcc v end sound (works end refl))
finishes_sound wcc v w (Err refused) sound works is = absurd cc

written_sound : (wcc : ℕ) (orders : List Site) (v w : Picture) → HaveCharacters orders → IsSound v
    → finishes wcc v (acts orders (begun wcc v.cells v.cursor)) ≡ Ok w → IsSound w
written_sound wcc orders v w real sound is =
    finishes_sound wcc v w (acts orders (begun wcc v.cells v.cursor)) sound
    (λ end acted. acts_work (cells_of v.size) orders (begun wcc v.cells v.cursor) end real (begun_works wcc v sound) acted) is

pub some_cells : (mode : Mode) (size : Size) → IsGood mode size → 0 < cells_of size
some_cells mode size good =
    let h : 1 ≤ size.cols = omega (arith, good.two_cols) in
    omega (arith, mul-le-mul_left size.rows h, good.some_rows)

pub erased_sound : (size : Size) (v : Picture) → IsSound v → (size ≡ v.geometry.default) ⊎ (size ≡ v.geometry.alternate) → IsGood v.geometry.mode size → IsSound (erased size v)
erased_sound size v sound one good =
    record {
      default_good = sound.default_good;
      alternate_good = sound.alternate_good;
      one_of_two = one;
      whole = length-replicate (cells_of size) blank;
      cursor_inside = some_cells v.geometry.mode size good;
      characters = nulls_real (cells_of size);
      attention = sound.attention;
    }

open_lt : (cells : List Cell) (p : ℕ) → p < length cells → first_open cells p < length cells
unfolding first_open
open_lt cells p inside =
    let n : ℕ = length cells in
    let P : Option ℕ → Type 0 = λ o. unwrap_or (option_map (ring_on n p) o) 0 < n in
    elim (search_cases n (λ d. is_open cells (ring_on n p d))) [
      | inl found ↦ subst P (sym (least_found n (λ d. is_open cells (ring_on n p d)) found.0 found.1)) (on_lt n p found.0 inside (omega (arith, found.1.inside)))
      | inr none ↦ subst P (sym (least_none n (λ d. is_open cells (ring_on n p d)) none)) (omega arith)
    ]

cursor_lt : (v : Picture) → IsSound v → v.cursor < length v.cells
cursor_lt v sound = omega (arith, sound.whole, sound.cursor_inside)

pub cleared_sound : (v : Picture) → IsSound v → IsSound (all_cleared v)
cleared_sound v sound =
    record {
      default_good = sound.default_good;
      alternate_good = sound.alternate_good;
      one_of_two = sound.one_of_two;
      whole = length-ruled (length v.cells) (cleared_cell v.cells) ∙ sound.whole;
      cursor_inside = omega (arith, open_lt v.cells 0 (omega (arith, cursor_lt v sound)), sound.whole);
      characters = cleared_real v.cells sound.characters;
      attention = no_key;
    }

pub shown_sound : (v w : Picture) (command : Command) (orders : List Site) → HaveCharacters orders → IsSound v → shown_of v command orders ≡ Ok w → IsSound w
unfolding shown_of
shown_sound v w (Write wcc) orders real sound is = written_sound wcc orders v w real sound is
shown_sound v w (EraseWrite wcc) orders real sound is =
    written_sound wcc orders (erased v.geometry.default v) w real (erased_sound v.geometry.default v sound (inl refl) sound.default_good) is
shown_sound v w (EraseWriteAlternate wcc) orders real sound is =
    written_sound wcc orders (erased v.geometry.alternate v) w real (erased_sound v.geometry.alternate v sound (inr refl) sound.alternate_good) is
shown_sound v w EraseAllUnprotected orders real sound is = subst IsSound (same_ok (all_cleared v) w (Ok (all_cleared v)) refl is) (cleared_sound v sound)
shown_sound v w ReadBuffer orders real sound is = absurd cc
shown_sound v w ReadModified orders real sound is = absurd cc
shown_sound v w ReadModifiedAll orders real sound is = absurd cc
shown_sound v w NoOperation orders real sound is = absurd cc

rest_characters : (mode : Mode) (wcc : Option ℕ) (orders : List Site) (rest : List ℕ) → SpellsRest mode wcc orders rest → HaveCharacters orders
rest_characters mode None orders rest spelled = subst HaveCharacters (sym spelled.0) tt
rest_characters mode (Some wcc) orders rest (more, is, spelled) = spelled_characters mode 2 orders more spelled

pub records_stay_sound : RecordsStaySound
records_stay_sound before after message mode bytes sound spelled shows =
    shown_sound before after message.command message.orders (rest_characters mode (wcc_of message.command) message.orders spelled.1 spelled.4) sound shows
