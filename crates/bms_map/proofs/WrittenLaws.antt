-- The record of a map that is fit is written.
use Rattle.std.proofs.Common.{◌≡◌, ◌≤◌, ◌*◌, ◌%◌, ◌==◌, ℕ, zero, suc, Bool, true, false, cond, ◌&&◌, List, [], ◌∷◌, ◌++◌, append_assoc, length, Option, Some, None, Ok, refl, sym, ◌∙◌, ap, subst, arith, inl, inr}
use Rattle.std.specs.Prelude.{◌⊎◌, nat_lt}
use Rattle.std.specs.List.{flat_map, list_all}
use Rattle.std.proofs.lemmas.Bool.{lt-ltb}
use Rattle.ds_codec.specs.declared.size.Size.{Size}
use Rattle.ds_codec.specs.declared.size.Mode.TheVariants.{Bits14}
use Rattle.ds_codec.specs.declared.command.Command.TheVariants.{EraseWrite, EraseWriteAlternate}
use Rattle.ds_codec.specs.declared.write.Unwritable.{Unwritable}
use Rattle.ds_codec.specs.declared.write.Unwritable.TheVariants.{NotAllowed}
use Rattle.ds_codec.specs.Address.{six_bit_code}
use Rattle.ds_codec.specs.Character.{is_text}
use Rattle.ds_codec.specs.Order.{Item, insert_cursor}
use Rattle.ds_codec.specs.Record.{is_text_order}
use Rattle.ds_codec.specs.Writing.{flaw_of, flaw_unless, is_good_run, are_good_pairs, item_at, follows_text, flaw_at, are_not_allowed, written_record}
use Rattle.ds_codec.proofs.Written.{is_read_again}
use Rattle.order_lines.specs.Draft.{flaw_or, first_flaw, bytes_or}
use Rattle.bms_map.specs.declared.record.Control.{Control}
use Rattle.bms_map.specs.Maps.{LaterText, Shown, Sheet, default_rows}
use Rattle.bms_map.specs.Record.{text_orders, attribute_order, cursor_orders, later_orders, field_orders, map_orders, control_bits, command_of}
use Rattle.bms_map.specs.Fit.{Each, IsScreen, cells_on, IsLaterOn, IsFieldOn, RecordsAreWritten}
use Rattle.bms_map.proofs.AgainLaws.{valid_at, valid_fields}

-- ---- no order has a flaw, where the order before the first is text or not
abbrev NoFlaw : ℕ → Bool → List Item → Type 0
NoFlaw cells after [] = Unit {0}
NoFlaw cells after (item ∷ items) = ((k : ℕ) → flaw_of cells after item k ≡ None) × NoFlaw cells (is_text_order item) items

abbrev follows_from : Bool → List Item → ℕ → Bool
follows_from after items zero = after
follows_from after items (suc k) = is_text_order (item_at items k)

flaw_none : (cells : ℕ) (after : Bool) (items : List Item) → NoFlaw cells after items → (k m : ℕ) → flaw_of cells (follows_from after items k) (item_at items k) m ≡ None
flaw_none cells after [] none zero m = refl
flaw_none cells after [] none (suc k) m = refl
flaw_none cells after (item ∷ items) none zero m = none.0 m
flaw_none cells after (item ∷ items) none (suc zero) m = flaw_none cells (is_text_order item) items none.1 zero m
flaw_none cells after (item ∷ items) none (suc (suc k)) m = flaw_none cells (is_text_order item) items none.1 (suc k) m

same_follows : (items : List Item) (k : ℕ) → follows_text items k ≡ follows_from false items k
same_follows items zero = refl
same_follows items (suc k) = refl

none_at : (cells : ℕ) (items : List Item) → NoFlaw cells false items → (k : ℕ) → flaw_at cells items k ≡ None
none_at cells items none k = ap (λ b. flaw_of cells b (item_at items k) k) (same_follows items k) ∙ flaw_none cells false items none k k

neither : (a b : Option Unwritable) → a ≡ None → b ≡ None → flaw_or a b ≡ None
neither None b one other = other
neither (Some flaw) b one other = absurd cc

none_first : (cells : ℕ) (items : List Item) → NoFlaw cells false items → (n : ℕ) → first_flaw cells items n ≡ None
none_first cells items none zero = refl
none_first cells items none (suc n) = neither (first_flaw cells items n) (flaw_at cells items n) (none_first cells items none n) (none_at cells items none n)

-- ---- a map's orders have none
abbrev Whatever : ℕ → List Item → Type 0
Whatever cells items = (after : Bool) → NoFlaw cells after items

good_flaw : (b : Bool) (flaw : Unwritable) → b ≡ true → flaw_unless b flaw ≡ None
good_flaw true flaw e = refl
good_flaw false flaw e = absurd cc

and_true : (a b : Bool) → a ≡ true → b ≡ true → (a && b) ≡ true
and_true true b one other = other
and_true false b one other = absurd cc

text_none : (cells : ℕ) (codes : List ℕ) (rest : List Item) → list_all is_text codes ≡ true → Whatever cells rest → NoFlaw cells false (text_orders codes ++ rest)
text_none cells [] rest all others = others false
text_none cells (code ∷ codes) rest all others = ((λ k. good_flaw (is_good_run false (code ∷ codes)) _ (and_true (nat_lt 0 (length (code ∷ codes))) _ (lt-ltb 0 (length (code ∷ codes)) (omega arith)) all)), others true)

later_none : (cells : ℕ) (later : List LaterText) (rest : List Item) → Each (IsLaterOn cells) later → Whatever cells rest → Whatever cells (flat_map later_orders later ++ rest)
later_none cells [] rest each others after = others after
later_none cells (one ∷ more) rest each others after = (
  (λ k. good_flaw (nat_lt one.cell cells) _ (lt-ltb one.cell cells each.0.inside)),
  subst (NoFlaw cells false) (sym (append_assoc (text_orders one.text) (flat_map later_orders more) rest))
      (text_none cells one.text (flat_map later_orders more ++ rest) each.0.text (later_none cells more rest each.1 others)),
)

attribute_none : (cells attribute : ℕ) (pairs : List ℕ) (k : ℕ) → (pairs ≡ []) ⊎ (are_good_pairs pairs ≡ true) → flaw_of cells false (attribute_order attribute pairs) k ≡ None
attribute_none cells attribute [] k good = refl
attribute_none cells attribute (byte ∷ pairs) k (inl none) = absurd cc
attribute_none cells attribute (byte ∷ pairs) k (inr good) = good_flaw (are_good_pairs (byte ∷ pairs)) _ good

no_text : (attribute : ℕ) (pairs : List ℕ) → is_text_order (attribute_order attribute pairs) ≡ false
no_text attribute [] = refl
no_text attribute (byte ∷ pairs) = refl

cursor_none : (cells : ℕ) (cursor : Option ℕ) (cell : ℕ) (rest : List Item) → NoFlaw cells false rest → NoFlaw cells false (cursor_orders cursor cell ++ rest)
cursor_none cells None cell rest others = others
cursor_none cells (Some at) cell rest others = elim (at == cell) as (λ b. NoFlaw cells false (cond b (insert_cursor ∷ []) [] ++ rest)) [ true ↦ ((λ k. refl), others) | false ↦ others ]

either_pairs : (cells : ℕ) (field : Shown) → IsFieldOn cells field → (field.pairs ≡ []) ⊎ (are_good_pairs field.pairs ≡ true)
either_pairs cells field is = elim is.pairs [ inl none ↦ inl none | inr good ↦ inr good.0 ]

field_none : (cells : ℕ) (cursor : Option ℕ) (field : Shown) (rest : List Item) → IsFieldOn cells field → Whatever cells rest → Whatever cells (field_orders cursor field ++ rest)
field_none cells cursor field rest is others after = (
  (λ k. good_flaw (nat_lt field.cell cells) _ (lt-ltb field.cell cells is.inside)),
  (
    (λ k. attribute_none cells (field.attribute % 64) field.pairs k (either_pairs cells field is)),
    subst (λ b. NoFlaw cells b (((cursor_orders cursor field.cell ++ text_orders field.text) ++ flat_map later_orders field.later) ++ rest)) (sym (no_text (field.attribute % 64) field.pairs))
        (subst (NoFlaw cells false) (sym grouped)
        (cursor_none cells cursor field.cell (text_orders field.text ++ (flat_map later_orders field.later ++ rest))
        (text_none cells field.text (flat_map later_orders field.later ++ rest) is.text (later_none cells field.later rest is.later others)))),
  ),
)
  where
    grouped : ((cursor_orders cursor field.cell ++ text_orders field.text) ++ flat_map later_orders field.later) ++ rest
        ≡ cursor_orders cursor field.cell ++ (text_orders field.text ++ (flat_map later_orders field.later ++ rest))
    grouped = simp append_assoc refl

fields_none : (cells : ℕ) (cursor : Option ℕ) (fields : List Shown) → Each (IsFieldOn cells) fields → Whatever cells (flat_map (field_orders cursor) fields)
fields_none cells cursor [] each after = tt
fields_none cells cursor (field ∷ fields) each after = field_none cells cursor field (flat_map (field_orders cursor) fields) each.0 (fields_none cells cursor fields each.1) after

-- ---- so it is written
few_screen : (screen : Size) → IsScreen screen → screen.rows * screen.cols ≤ 16384
few_screen screen (inl is) = subst (λ (s : Size). s.rows * s.cols ≤ 16384) (sym is) (omega arith)
few_screen screen (inr (inl is)) = subst (λ (s : Size). s.rows * s.cols ≤ 16384) (sym is) (omega arith)
few_screen screen (inr (inr (inl is))) = subst (λ (s : Size). s.rows * s.cols ≤ 16384) (sym is) (omega arith)
few_screen screen (inr (inr (inr is))) = subst (λ (s : Size). s.rows * s.cols ≤ 16384) (sym is) (omega arith)

allowed : (it : Sheet) (control : Control) (items : List Item) → are_not_allowed (command_of it control) items ≡ false
allowed it control items = elim (it.area.screen.rows == default_rows) as
    (λ b. are_not_allowed (cond b (EraseWrite (six_bit_code (control_bits it.control control))) (EraseWriteAlternate (six_bit_code (control_bits it.control control)))) items ≡ false) [
      | true ↦ refl
      | false ↦ refl
    ]

no_reason : (refused : Bool) (found : Option Unwritable) (bytes : List ℕ) → refused ≡ false → found ≡ None → bytes_or (cond refused (Some NotAllowed) found) bytes ≡ Ok bytes
no_reason true found bytes one other = absurd cc
no_reason false None bytes one other = refl
no_reason false (Some flaw) bytes one other = absurd cc

pub records_are_written : RecordsAreWritten
records_are_written it control fit =
    let cells = cells_on it.area in
    let command = command_of it control in
    let orders = map_orders it in
    let none = fields_none cells it.cursor it.fields fit.fields false in (
      written_record Bits14 cells command orders,
      no_reason (are_not_allowed command orders) (first_flaw cells orders (length orders)) (written_record Bits14 cells command orders) (allowed it control orders) (none_first cells orders none (length orders)),
      is_read_again Bits14 cells command orders (few_screen it.area.screen fit.ground.screen) (allowed it control orders, none_at cells orders none) (valid_at orders (valid_fields it.cursor it.fields)),
    )
