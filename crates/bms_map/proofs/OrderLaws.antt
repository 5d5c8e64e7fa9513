-- Orders that are written one after the other.
use Rattle.std.proofs.Common.{◌≡◌, ℕ, ◌*◌, List, [], ◌∷◌, ◌++◌, length, Result, Ok, Err, refl, sym, ◌∙◌, ap, arith, inr}
use Rattle.std.specs.Prelude.{IfOk, IfErr}
use Rattle.std.specs.Global.{Vec}
use Rattle.std.specs.List.{flat_map}
use Rattle.ds_codec.specs.declared.size.Mode.TheVariants.{Bits14}
use Rattle.ds_codec.specs.declared.write.Unwritable.{Unwritable}
use Rattle.ds_codec.specs.Order.{Item, start_field}
use Rattle.order_lines.specs.Draft.{Partial, begun, bytes_in, with_order, with_orders}
use Rattle.order_lines.proofs.Drafts.{written_in_turn}
use Rattle.bms_map.specs.Maps.{Sheet}
use Rattle.bms_map.specs.declared.record.Control.{Control}
use Rattle.bms_map.specs.Record.{attribute_order, map_orders, command_of, IsRecordOf}

pub with_append : (partial : Partial) (xs ys : List Item) → with_orders partial (xs ++ ys) ≡ with_orders (with_orders partial xs) ys
with_append partial [] ys = refl
with_append partial (x ∷ xs) ys = with_append (with_order partial x) xs ys

-- one more of those that are gone over
pub with_next : {A : Type 0} (orders : A → List Item) (old now next : Partial) (xs rest : List A) (x : A) (left : List A) → rest ≡ x ∷ left
    → with_orders now (flat_map orders rest) ≡ with_orders old (flat_map orders xs) → next ≡ with_orders now (orders x)
    → with_orders next (flat_map orders left) ≡ with_orders old (flat_map orders xs)
with_next orders old now next xs rest x left is all same =
    ap (λ p. with_orders p (flat_map orders left)) same ∙ sym (with_append now (orders x) (flat_map orders left))
    ∙ ap (λ l. with_orders now (flat_map orders l)) (sym is) ∙ all

pub without_pairs : (attribute : ℕ) (pairs : List ℕ) → length pairs ≡ 0 → start_field attribute ≡ attribute_order attribute pairs
without_pairs attribute [] none = refl
without_pairs attribute (byte ∷ pairs) none = absurd (omega (arith, none))

-- what is written of a map's orders is its record
pub is_record : (map : Sheet) (control : Control) (partial : Partial) (result : Result (Vec ℕ) Unwritable)
    → partial ≡ with_orders (begun Bits14 (map.area.screen.rows * map.area.screen.cols) (command_of map control)) (map_orders map)
    → IfOk result (λ bytes. bytes_in partial ≡ Ok bytes.items) → IfErr result (λ flaw. bytes_in partial ≡ Err flaw) → IsRecordOf map control result
is_record map control partial (Ok bytes) is good bad =
    sym (written_in_turn Bits14 (map.area.screen.rows * map.area.screen.cols) (command_of map control) (map_orders map)) ∙ ap bytes_in (sym is) ∙ good
is_record map control partial (Err flaw) is good bad =
    inr (sym (written_in_turn Bits14 (map.area.screen.rows * map.area.screen.cols) (command_of map control) (map_orders map)) ∙ ap bytes_in (sym is) ∙ bad)
