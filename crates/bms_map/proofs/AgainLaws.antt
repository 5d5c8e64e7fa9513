-- What is written of a map is read again as its orders.
use Rattle.std.proofs.Common.{◌≡◌, ◌≤◌, ◌<◌, ◌*◌, ◌%◌, ◌==◌, ℕ, zero, suc, Bool, true, false, cond, ltb, List, [], ◌∷◌, ◌++◌, length, Option, Some, None, Result, Ok, Err, refl, sym, ap, subst, arith, inl, inr}
use Rattle.std.specs.Prelude.{IfOk}
use Rattle.std.specs.Global.{Vec}
use Rattle.std.specs.List.{flat_map}
use Rattle.std.proofs.lemmas.Bool.{cases_lt, ltb-true, ltb-false}
use Rattle.std.proofs.Math.Nat.{mod-lt}
use Rattle.ds_codec.specs.declared.size.Mode.TheVariants.{Bits14}
use Rattle.ds_codec.specs.declared.write.Unwritable.{Unwritable}
use Rattle.ds_codec.specs.declared.write.Unwritable.TheVariants.{NotAllowed}
use Rattle.ds_codec.specs.Order.{Item, insert_cursor}
use Rattle.ds_codec.specs.Writing.{flaw_of, item_at, follows_text, flaw_at, HaveNoFlaw, IsValidItem, AreValid, are_not_allowed, written_record, IsReadAgain}
use Rattle.ds_codec.proofs.Written.{is_read_again}
use Rattle.order_lines.specs.Draft.{flaw_or, first_flaw, bytes_or}
use Rattle.bms_map.specs.declared.record.Control.{Control}
use Rattle.bms_map.specs.Maps.{LaterText, Shown, Sheet}
use Rattle.bms_map.specs.Record.{text_orders, attribute_order, cursor_orders, later_orders, field_orders, map_orders, command_of, IsRecordOf}

-- ---- no order has a flaw where a record is written

neither : (a b : Option Unwritable) → flaw_or a b ≡ None → (a ≡ None) × (b ≡ None)
neither None b e = (refl, e)
neither (Some flaw) b e = absurd cc

none_found : (cells : ℕ) (orders : List Item) (n : ℕ) → first_flaw cells orders n ≡ None → (k : ℕ) → k < n → flaw_at cells orders k ≡ None
none_found cells orders zero none k lt = absurd (omega (arith, lt))
none_found cells orders (suc n) none k lt =
    let both = neither (first_flaw cells orders n) (flaw_at cells orders n) none in
    elim (cases_lt k n) [
      | inl below ↦ none_found cells orders n both.0 k below
      | inr last ↦ let same : k ≡ n = omega (arith, last, lt) in rw same both.1
    ]

past_end : (items : List Item) (k : ℕ) → length items ≤ k → item_at items k ≡ insert_cursor
past_end [] zero past = refl
past_end [] (suc k) past = refl
past_end (item ∷ items) zero past = absurd (omega (arith, past))
past_end (item ∷ items) (suc k) past = past_end items k (omega (arith, past))

have_no_flaw : (cells : ℕ) (orders : List Item) → first_flaw cells orders (length orders) ≡ None → HaveNoFlaw cells orders
have_no_flaw cells orders none k = elim (ltb k (length orders)) as (λ b. ltb k (length orders) ≡ b → flaw_at cells orders k ≡ None) [
  | true ↦ λ e. none_found cells orders (length orders) none k (ltb-true k (length orders) e)
  | false ↦ λ e. ap (λ item. flaw_of cells (follows_text orders k) item k) (past_end orders k (ltb-false k (length orders) e))
] refl

written_as : (refused : Bool) (found : Option Unwritable) (bytes written : List ℕ) → bytes_or (cond refused (Some NotAllowed) found) written ≡ Ok bytes
    → (refused ≡ false) × (found ≡ None) × (bytes ≡ written)
written_as true found bytes written e = absurd cc
written_as false None bytes written e = (refl, refl, same_bytes written bytes e)
  where
    same_bytes : (a b : List ℕ) → bytes_or None a ≡ Ok b → b ≡ a
    same_bytes a b e = cc
written_as false (Some flaw) bytes written e = absurd cc

-- ---- a map's orders are valid

abbrev AllValid : List Item → Type 0
AllValid [] = Unit {0}
AllValid (item ∷ items) = IsValidItem item × AllValid items

pub valid_at : (items : List Item) → AllValid items → AreValid items
valid_at [] all zero = tt
valid_at [] all (suc k) = tt
valid_at (item ∷ items) all zero = all.0
valid_at (item ∷ items) all (suc k) = valid_at items all.1 k

valid_append : (xs ys : List Item) → AllValid xs → AllValid ys → AllValid (xs ++ ys)
valid_append [] ys left right = right
valid_append (x ∷ xs) ys left right = (left.0, valid_append xs ys left.1 right)

valid_text : (codes : List ℕ) → AllValid (text_orders codes)
valid_text [] = tt
valid_text (code ∷ codes) = (tt, tt)

valid_attribute : (attribute : ℕ) (pairs : List ℕ) → IsValidItem (attribute_order (attribute % 64) pairs)
valid_attribute attribute [] = mod-lt attribute (omega arith)
valid_attribute attribute (byte ∷ pairs) = tt

valid_cursor : (cursor : Option ℕ) (cell : ℕ) → AllValid (cursor_orders cursor cell)
valid_cursor None cell = tt
valid_cursor (Some at) cell = elim (at == cell) as (λ b. AllValid (cond b (insert_cursor ∷ []) [])) [ true ↦ (tt, tt) | false ↦ tt ]

valid_laters : (later : List LaterText) → AllValid (flat_map later_orders later)
valid_laters [] = tt
valid_laters (one ∷ others) = (tt, valid_append (text_orders one.text) (flat_map later_orders others) (valid_text one.text) (valid_laters others))

valid_field : (cursor : Option ℕ) (field : Shown) → AllValid (field_orders cursor field)
valid_field cursor field = (
  tt,
  (
    valid_attribute field.attribute field.pairs,
    valid_append (cursor_orders cursor field.cell ++ text_orders field.text) (flat_map later_orders field.later)
        (valid_append (cursor_orders cursor field.cell) (text_orders field.text) (valid_cursor cursor field.cell) (valid_text field.text)) (valid_laters field.later),
  ),
)

pub valid_fields : (cursor : Option ℕ) (fields : List Shown) → AllValid (flat_map (field_orders cursor) fields)
valid_fields cursor [] = tt
valid_fields cursor (field ∷ fields) = valid_append (field_orders cursor field) (flat_map (field_orders cursor) fields) (valid_field cursor field) (valid_fields cursor fields)

-- ---- so it is read again

pub record_again : (map : Sheet) (control : Control) (result : Result (Vec ℕ) Unwritable) → map.area.screen.rows * map.area.screen.cols ≤ 16384 → IsRecordOf map control result
    → IfOk result (λ bytes. IsReadAgain Bits14 (command_of map control) (map_orders map) bytes.items)
record_again map control (Err flaw) few is = tt
record_again map control (Ok bytes) few is =
    let cells = map.area.screen.rows * map.area.screen.cols in
    let command = command_of map control in
    let orders = map_orders map in
    let written = written_as (are_not_allowed command orders) (first_flaw cells orders (length orders)) bytes.items (written_record Bits14 cells command orders) is in
    subst (λ l. IsReadAgain Bits14 command orders l) (sym written.2)
    (is_read_again Bits14 cells command orders few (written.0, have_no_flaw cells orders written.1) (valid_at orders (valid_fields map.cursor map.fields)))
