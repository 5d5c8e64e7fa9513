-- What is written is read again.
use Rattle.std.proofs.Common.{◌≡◌, ℕ, zero, suc, ◌+◌, ◌/◌, ◌%◌, ◌<◌, ◌≤◌, Bool, true, false, cond, ltb, leb, ◌&&◌, List, [], ◌∷◌, ◌++◌, length, get_or, map, take, Option, Some, None, Result, Ok, Err, refl, sym, ap, ◌∙◌, arith, append_assoc, inl, inr}
use Rattle.std.specs.Prelude.{IfOk, OnOk, is_none, not, slice_index}
use Rattle.std.specs.Global.{Vec}
use Rattle.std.specs.List.{list_all, flat_map}
use Rattle.std.proofs.lemmas.Bool.{eqb-true, ltb-true, ltb-false, leb-true, cases_lt}
use Rattle.std.proofs.lemmas.List.{get_or-map, take_more, append-nil, get_or_past, length-map}
use Rattle.std.proofs.lemmas.List.Concat.{flat_map-cons}
use Rattle.std.proofs.lemmas.Grind.{flat_map-append}
use Rattle.ds_codec.specs.declared.size.Mode.{Mode}
use Rattle.ds_codec.specs.declared.size.Mode.TheVariants.{Bits14, Bits16}
use Rattle.ds_codec.specs.declared.command.Command.{Command}
use Rattle.ds_codec.specs.declared.command.Command.TheVariants as command
use Rattle.ds_codec.specs.declared.order.Order.{Order}
use Rattle.ds_codec.specs.declared.write.Unwritable.{Unwritable}
use Rattle.ds_codec.specs.declared.write.Unwritable.TheVariants.{AddressOutside, BadText, BadPairs, BadCode, NotAllowed, OutOfMemory}
use Rattle.ds_codec.specs.Geometry.{limit_of}
use Rattle.ds_codec.specs.Address.{SpellsAddress, written_address, six_bit_code}
use Rattle.ds_codec.specs.Character.{Glyph, is_text, is_glyph}
use Rattle.ds_codec.specs.Command.{is_code_of, command_code_of, wcc_of, written_code}
use Rattle.ds_codec.specs.Order.{Item, item_of, text, start_field, start_field_extended, set_buffer_address, set_attribute, modify_field, insert_cursor, program_tab, repeat_to_address, erase_unprotected_to_address, graphic_escape, Site, SpellsPairs, SpellsCharacter, SpellsOrder}
use Rattle.ds_codec.specs.Record.{Message, is_text_order, MayFollow, AreSpelled, SpellsRest, SpellsRecord}
use Rattle.ds_codec.specs.Writing.{items_of, is_good_run, are_good_pairs, flaw_unless, flaw_of, item_at, follows_text, flaw_at, HaveNoFlaw, IsWritable, IsFlawHere, IsFlawAmong, IsValidItem, AreValid, written_character, written_order, written_rest, written_record, IsReadAgain}
use Rattle.ds_codec.proofs.Below.{both_true}
use Rattle.ds_codec.proofs.Steps.{some_is}
use Rattle.ds_codec.proofs.Codes.{low_six, six_bit_spells}
use Rattle.ds_codec.proofs.Records.{read_again}

-- ---- an order without a flaw is spelled as it is written

no_flaw : (good : Bool) (flaw : Unwritable) → flaw_unless good flaw ≡ None → good ≡ true
no_flaw true flaw e = refl
no_flaw false flaw e = absurd cc

-- two bytes of an address, as they are written
pub written_spells : (mode : Mode) (cells address : ℕ) → cells ≤ limit_of mode → address < cells
    → (first : ℕ) × (second : ℕ) × (written_address mode cells address ≡ first ∷ second ∷ []) × SpellsAddress mode address first second
written_spells Bits14 cells address few inside =
    elim (leb cells 4096) as (λ b. leb cells 4096 ≡ b → (first : ℕ) × (second : ℕ) × (cond b (six_bit_code (address / 64) ∷ six_bit_code (address % 64) ∷ []) (address / 256 ∷ address % 256 ∷ []) ≡ first ∷ second ∷ []) × SpellsAddress Bits14 address first second) [
      | true ↦ λ small. let le : cells ≤ 4096 = leb-true _ _ small in (_, _, refl, six_bit_spells address (omega arith))
      | false ↦ λ large. (_, _, refl, inl (omega arith, omega arith))
    ] refl
written_spells Bits16 cells address few inside = (_, _, refl, omega arith)

pub written_spelled : (mode : Mode) (cells address : ℕ) → cells ≤ limit_of mode → address < cells
    → SpellsAddress mode address (slice_index (written_address mode cells address) 0) (slice_index (written_address mode cells address) 1)
written_spelled mode cells address few inside =
    let w = written_spells mode cells address few inside in
    rw (w.2) (w.3)

pairs_spelled : (pairs : List ℕ) → are_good_pairs pairs ≡ true → SpellsPairs pairs ((length pairs / 2) ∷ pairs)
pairs_spelled pairs good =
    let parts = both_true _ _ good in
    let even : length pairs % 2 ≡ 0 = eqb-true _ _ parts.0 in
    (length pairs / 2, refl, omega arith, (both_true _ _ parts.1).1)

character_spelled : (character : Glyph) → is_glyph character ≡ true → SpellsCharacter character (written_character character)
character_spelled character good = (good, refl)

run_spelled : (after_text : Bool) (run : List ℕ) → is_good_run after_text run ≡ true → (0 < length run) × (list_all is_text run ≡ true)
run_spelled after_text run good =
    let later = both_true _ _ (both_true (not after_text) _ good).1 in
    (ltb-true _ _ later.0, later.1)

order_spelled : (mode : Mode) (cells : ℕ) (after_text : Bool) (order : Item) (k : ℕ) → cells ≤ limit_of mode → flaw_of cells after_text order k ≡ None → IsValidItem order
    → SpellsOrder mode order (written_order mode cells order)
order_spelled mode cells after_text (text run) k few good valid = let r = run_spelled after_text run (no_flaw _ _ good) in (refl, r.0, r.1)
order_spelled mode cells after_text (start_field attribute) k few good valid = (six_bit_code attribute, refl, sym (low_six attribute valid))
order_spelled mode cells after_text (start_field_extended pairs) k few good valid = (_, refl, pairs_spelled pairs (no_flaw _ _ good))
order_spelled mode cells after_text (set_buffer_address address) k few good valid =
    let a = written_spells mode cells address few (ltb-true _ _ (no_flaw _ _ good)) in (a.0, a.1, ap (λ bytes. 0x11 ∷ bytes) a.2, a.3)
order_spelled mode cells after_text (set_attribute kind value) k few good valid = (refl, no_flaw _ _ good)
order_spelled mode cells after_text (modify_field pairs) k few good valid = (_, refl, pairs_spelled pairs (no_flaw _ _ good))
order_spelled mode cells after_text insert_cursor k few good valid = refl
order_spelled mode cells after_text program_tab k few good valid = refl
order_spelled mode cells after_text (repeat_to_address address character) k few good valid =
    let a = written_spells mode cells address few (ltb-true _ _ (no_flaw _ _ good)) in
    (a.0, a.1, written_character character, ap (λ bytes. 0x3C ∷ (bytes ++ written_character character)) a.2, a.3, character_spelled character valid)
order_spelled mode cells after_text (erase_unprotected_to_address address) k few good valid =
    let a = written_spells mode cells address few (ltb-true _ _ (no_flaw _ _ good)) in (a.0, a.1, ap (λ bytes. 0x12 ∷ bytes) a.2, a.3)
order_spelled mode cells after_text (graphic_escape code) k few good valid = (refl, no_flaw _ _ good)

-- ---- orders one after the other

-- each order is good after the one before it
abbrev FollowWell : ℕ → Bool → List Item → Type 0
FollowWell cells after_text [] = Unit {0}
FollowWell cells after_text (order ∷ orders) = ((k : ℕ) → flaw_of cells after_text order k ≡ None) × IsValidItem order × FollowWell cells (is_text_order order) orders

flaw_anywhere : (cells : ℕ) (after_text : Bool) (order : Item) (k j : ℕ) → flaw_of cells after_text order k ≡ None → flaw_of cells after_text order j ≡ None
flaw_anywhere cells after_text (text run) k j e = rw (no_flaw _ _ e) refl
flaw_anywhere cells after_text (start_field attribute) k j e = refl
flaw_anywhere cells after_text (start_field_extended pairs) k j e = rw (no_flaw _ _ e) refl
flaw_anywhere cells after_text (set_buffer_address address) k j e = rw (no_flaw _ _ e) refl
flaw_anywhere cells after_text (set_attribute kind value) k j e = rw (no_flaw _ _ e) refl
flaw_anywhere cells after_text (modify_field pairs) k j e = rw (no_flaw _ _ e) refl
flaw_anywhere cells after_text insert_cursor k j e = refl
flaw_anywhere cells after_text program_tab k j e = refl
flaw_anywhere cells after_text (repeat_to_address address character) k j e = rw (no_flaw _ _ e) refl
flaw_anywhere cells after_text (erase_unprotected_to_address address) k j e = rw (no_flaw _ _ e) refl
flaw_anywhere cells after_text (graphic_escape code) k j e = rw (no_flaw _ _ e) refl

-- whether text stands before the k-th, where it stands before the first
abbrev after_at : Bool → List Item → ℕ → Bool
after_at after_text orders zero = after_text
after_at after_text orders (suc k) = is_text_order (item_at orders k)

shifted : (cells : ℕ) (after_text : Bool) (order : Item) (orders : List Item) → ((k : ℕ) → flaw_of cells (after_at after_text (order ∷ orders) k) (item_at (order ∷ orders) k) k ≡ None)
    → (k : ℕ) → flaw_of cells (after_at (is_text_order order) orders k) (item_at orders k) k ≡ None
shifted cells after_text order orders each zero = flaw_anywhere cells (is_text_order order) (item_at orders 0) 1 0 (each 1)
shifted cells after_text order orders each (suc k) = flaw_anywhere cells (is_text_order (item_at orders k)) (item_at orders (suc k)) (suc (suc k)) (suc k) (each (suc (suc k)))

follow_well : (cells : ℕ) (after_text : Bool) (orders : List Item) → ((k : ℕ) → flaw_of cells (after_at after_text orders k) (item_at orders k) k ≡ None) → AreValid orders → FollowWell cells after_text orders
follow_well cells after_text [] each valid = tt
follow_well cells after_text (order ∷ orders) each valid =
    ((λ k. flaw_anywhere cells after_text order 0 k (each 0)), valid 0, follow_well cells (is_text_order order) orders (shifted cells after_text order orders each) (λ k. valid (suc k)))

from_follows : (cells : ℕ) (orders : List Item) → HaveNoFlaw cells orders → (k : ℕ) → flaw_of cells (after_at false orders k) (item_at orders k) k ≡ None
from_follows cells orders none zero = none zero
from_follows cells orders none (suc k) = none (suc k)

-- the places of orders that are written one after the other
abbrev placed_from : Mode → ℕ → ℕ → List Item → List Site
placed_from mode cells at [] = []
placed_from mode cells at (order ∷ orders) = record { at = at; order = order } ∷ placed_from mode cells (at + length (written_order mode cells order)) orders

placed_orders : (mode : Mode) (cells at : ℕ) (orders : List Item) → map (λ site. site.order) (placed_from mode cells at orders) ≡ orders
placed_orders mode cells at [] = refl
placed_orders mode cells at (order ∷ orders) = ap (λ later. order ∷ later) (placed_orders mode cells (at + length (written_order mode cells order)) orders)

and_false : (b : Bool) → (b && false) ≡ false
and_false true = refl
and_false false = refl

no_run_after : (after_text : Bool) (run : List ℕ) → is_good_run after_text run ≡ true → (after_text && true) ≡ false
no_run_after true run good = absurd cc
no_run_after false run good = refl

no_text_after : (cells : ℕ) (order next : Item) → flaw_of cells (is_text_order order) next 0 ≡ None → (is_text_order order && is_text_order next) ≡ false
no_text_after cells order (text run) good = no_run_after (is_text_order order) run (no_flaw _ _ good)
no_text_after cells order next good = and_false (is_text_order order)

may_follow : (mode : Mode) (cells at : ℕ) (order : Item) (orders : List Item) → FollowWell cells (is_text_order order) orders → MayFollow order (placed_from mode cells at orders)
may_follow mode cells at order [] well = tt
may_follow mode cells at order (next ∷ orders) well = no_text_after cells order next (well.0 0)

-- orders that follow each other well are spelled as they are written
all_spelled : (mode : Mode) (cells at : ℕ) (after_text : Bool) (orders : List Item) → cells ≤ limit_of mode → FollowWell cells after_text orders
    → AreSpelled mode at (placed_from mode cells at orders) (flat_map (written_order mode cells) orders)
all_spelled mode cells at after_text [] few well = refl
all_spelled mode cells at after_text (order ∷ orders) few well =
    let there = at + length (written_order mode cells order) in (
      written_order mode cells order,
      flat_map (written_order mode cells) orders,
      flat_map-cons (written_order mode cells) order orders,
      refl,
      order_spelled mode cells after_text order 0 few (well.0 0) well.1,
      may_follow mode cells there order orders well.2,
      all_spelled mode cells there (is_text_order order) orders few well.2,
    )

-- ---- a record

written_is_code : (command : Command) → is_code_of (written_code (command_code_of command)) (command_code_of command) ≡ true
written_is_code (command.Write wcc) = refl
written_is_code (command.EraseWrite wcc) = refl
written_is_code (command.EraseWriteAlternate wcc) = refl
written_is_code command.EraseAllUnprotected = refl
written_is_code command.ReadBuffer = refl
written_is_code command.ReadModified = refl
written_is_code command.ReadModifiedAll = refl
written_is_code command.NoOperation = refl

-- the orders that a command without orders has
none_left : (orders : List Item) → ltb 0 (length orders) ≡ false → orders ≡ []
none_left [] e = refl
none_left (order ∷ orders) e = let none : length (order ∷ orders) ≤ 0 = ltb-false _ _ e in absurd (omega arith)

abbrev sites_of : Mode → ℕ → Option ℕ → List Item → List Site
sites_of mode cells None orders = []
sites_of mode cells (Some wcc) orders = placed_from mode cells 2 orders

rest_spelled : (mode : Mode) (cells : ℕ) (wcc : Option ℕ) (orders : List Item) → FollowWell cells false orders → cells ≤ limit_of mode → SpellsRest mode wcc (sites_of mode cells wcc orders) (written_rest mode cells wcc orders)
rest_spelled mode cells None orders well few = (refl, refl)
rest_spelled mode cells (Some wcc) orders well few = (_, refl, all_spelled mode cells 2 false orders few well)

orders_again : (mode : Mode) (cells : ℕ) (wcc : Option ℕ) (orders : List Item) → (is_none wcc && ltb 0 (length orders)) ≡ false → map (λ site. site.order) (sites_of mode cells wcc orders) ≡ orders
orders_again mode cells None orders allowed = sym (none_left orders allowed)
orders_again mode cells (Some wcc) orders allowed = placed_orders mode cells 2 orders

pub is_read_again : (mode : Mode) (cells : ℕ) (command : Command) (orders : List Item) → cells ≤ limit_of mode → IsWritable cells command orders → AreValid orders
    → IsReadAgain mode command orders (written_record mode cells command orders)
is_read_again mode cells command orders few writable valid =
    let well = follow_well cells false orders (from_follows cells orders writable.1) valid in
    let message : Message = record { command = command; orders = sites_of mode cells (wcc_of command) orders } in
    let spelled : SpellsRecord mode message (written_record mode cells command orders) =
    (written_code (command_code_of command), written_rest mode cells (wcc_of command) orders, refl, written_is_code command, rest_spelled mode cells (wcc_of command) orders well few) in
    (message, read_again mode _ message spelled, spelled, refl, orders_again mode cells (wcc_of command) orders writable.0)

pub reads_again : (mode : Mode) (cells : ℕ) (command : Command) (orders : List Item) (result : Result (Vec ℕ) Unwritable) → cells ≤ limit_of mode
    → IfOk result (λ bytes. bytes.items ≡ written_record mode cells command orders) → OnOk result (IsWritable cells command orders) → OnOk result (AreValid orders)
    → IfOk result (λ bytes. IsReadAgain mode command orders bytes.items)
reads_again mode cells command orders (Ok bytes) few is writable valid = rw is (is_read_again mode cells command orders few writable valid)
reads_again mode cells command orders (Err e) few is writable valid = tt

-- ---- the loop over the orders

pub item_here : (orders : List Order) (k : ℕ) (order : Order) → k < length orders → order ≡ get_or orders k order → item_at (items_of orders) k ≡ item_of order
item_here orders k order inside is = get_or-map item_of orders k order insert_cursor inside ∙ ap item_of (sym is)

pub bytes_more : (mode : Mode) (cells k : ℕ) (orders : List Order) (order : Order) (first before after : List ℕ) → k < length orders → order ≡ get_or orders k order
    → before ≡ first ++ flat_map (written_order mode cells) (take k (items_of orders)) → after ≡ before ++ written_order mode cells (item_of order)
    → after ≡ first ++ flat_map (written_order mode cells) (take (k + 1) (items_of orders))
bytes_more mode cells k orders order first before after inside is so_far here =
    let items = items_of orders in
    let f = written_order mode cells in
    let more : take (k + 1) items ≡ take k items ++ item_of order ∷ [] =
    take_more items k insert_cursor (omega (arith, length-map orders item_of)) ∙ ap (λ i. take k items ++ i ∷ []) (item_here orders k order inside is) in
    let one : flat_map f (item_of order ∷ []) ≡ f (item_of order) = flat_map-cons f (item_of order) [] ∙ append-nil (f (item_of order)) in
    here ∙ ap (λ b. b ++ f (item_of order)) so_far ∙ append_assoc first (flat_map f (take k items)) (f (item_of order))
    ∙ ap (λ b. first ++ (flat_map f (take k items) ++ b)) (sym one) ∙ ap (λ b. first ++ b) (sym (flat_map-append f (take k items) (item_of order ∷ []))) ∙ ap (λ b. first ++ flat_map f b) (sym more)

pub good_more : (cells k : ℕ) (orders : List Order) (order : Order) (after_text : Bool) → k < length orders → order ≡ get_or orders k order → after_text ≡ follows_text (items_of orders) k
    → flaw_of cells after_text (item_of order) k ≡ flaw_at cells (items_of orders) k
good_more cells k orders order after_text inside is before = rw (before, item_here orders k order inside is) refl

pub all_good : (cells n : ℕ) (items : List Item) → length items ≤ n → ((j : ℕ) → j < n → flaw_at cells items j ≡ None) → HaveNoFlaw cells items
all_good cells n items all each j =
    elim (cases_lt j n) [
      | inl lt ↦ each j lt
      | inr le ↦ let past : item_at items j ≡ insert_cursor = get_or_past items j insert_cursor (omega arith) in rw past refl
    ]

pub all_valid : (n : ℕ) (items : List Item) → length items ≤ n → ((j : ℕ) → j < n → IsValidItem (item_at items j)) → AreValid items
all_valid n items all each j =
    elim (cases_lt j n) [
      | inl lt ↦ each j lt
      | inr le ↦ let past : item_at items j ≡ insert_cursor = get_or_past items j insert_cursor (omega arith) in rw past tt
    ]

not_that : (good : Bool) (flaw : Unwritable) → (flaw ≡ NotAllowed → ⊥) → flaw_unless good flaw ≡ Some NotAllowed → ⊥
not_that true flaw other e = absurd cc
not_that false flaw other e = other (some_is flaw NotAllowed e)

-- no order is at fault for what the command allows
no_such_flaw : (cells : ℕ) (after_text : Bool) (order : Item) (k : ℕ) → flaw_of cells after_text order k ≡ Some NotAllowed → ⊥
no_such_flaw cells after_text (text run) k e = not_that _ (BadText k) (λ same. absurd cc) e
no_such_flaw cells after_text (start_field attribute) k e = absurd cc
no_such_flaw cells after_text (start_field_extended pairs) k e = not_that _ (BadPairs k) (λ same. absurd cc) e
no_such_flaw cells after_text (set_buffer_address address) k e = not_that _ (AddressOutside k) (λ same. absurd cc) e
no_such_flaw cells after_text (set_attribute kind value) k e = not_that _ (BadPairs k) (λ same. absurd cc) e
no_such_flaw cells after_text (modify_field pairs) k e = not_that _ (BadPairs k) (λ same. absurd cc) e
no_such_flaw cells after_text insert_cursor k e = absurd cc
no_such_flaw cells after_text program_tab k e = absurd cc
no_such_flaw cells after_text (repeat_to_address address character) k e = not_that _ (AddressOutside k) (λ same. absurd cc) e
no_such_flaw cells after_text (erase_unprotected_to_address address) k e = not_that _ (AddressOutside k) (λ same. absurd cc) e
no_such_flaw cells after_text (graphic_escape code) k e = not_that _ (BadCode k) (λ same. absurd cc) e

pub flaw_first : (cells k : ℕ) (items : List Item) (e : Unwritable) → IsFlawHere (flaw_at cells items k) e → ((j : ℕ) → j < k → flaw_at cells items j ≡ None) → IsFlawAmong cells items e
flaw_first cells k items OutOfMemory here before = tt
flaw_first cells k items NotAllowed here before = no_such_flaw cells (follows_text items k) (item_at items k) k here
flaw_first cells k items (AddressOutside n) here before = (k, here, before)
flaw_first cells k items (BadText n) here before = (k, here, before)
flaw_first cells k items (BadPairs n) here before = (k, here, before)
flaw_first cells k items (BadCode n) here before = (k, here, before)

pub text_more : (items : List Item) (k : ℕ) (after_text : Bool) (order : Item) → item_at items k ≡ order → after_text ≡ is_text_order order → after_text ≡ follows_text items (k + 1)
text_more items k after_text order here is = let next : k + 1 ≡ suc k = omega arith in rw (next, here) is
