-- The picture in which a character can be put at the cursor.
use Rattle.std.proofs.Common.{◌≡◌, ℕ, ◌-◌, ◌<◌, ◌&&◌, Bool, true, false, ltb, leb, List, length, Option, Some, None, refl, sym, ◌∙◌, subst, inl, inr}
use Rattle.std.specs.Prelude.{option_map}
use Rattle.std.proofs.lemmas.Bool.{cond-true, cond-false, cases_Bool}
use Rattle.ds_codec.specs.declared.cell.Cell.{Cell}
use Rattle.ds_screen.specs.Ring.{ring_on, ring_distance}
use Rattle.ds_screen.specs.Picture.{Picture, IsSound, cell_at, is_real}
use Rattle.ds_screen.specs.Fields.{is_attribute, is_open}
use Rattle.ds_screen.proofs.RuledLaws.{length-ruled}
use Rattle.ds_screen.proofs.CharacterLaws.{AreReal, each_real, all_real, ruled_real, either_real}
use Rattle.ds_keys.specs.Laws.{Keeps}
use Rattle.ds_keys.proofs.CellLaws.{keeps_same, same_open}
use Rattle.ds_strokes.specs.Room.{before_null, shifted_cell, shifted, made_room, readied}
use Rattle.ds_strokes.proofs.RoomLaws.{null_characters, shifted_keeps, shifted_attribute}

pub cursor_lt : (v : Picture) → IsSound v → v.cursor < length v.cells
cursor_lt v s = let P : ℕ → Type 0 = λ n. v.cursor < n in subst P (sym s.whole) s.cursor_inside

-- what holds of it
pub record IsReady (v w : Picture) : Type 0 where
  pub cursor : w.cursor ≡ v.cursor
  pub opens : is_open v.cells v.cursor ≡ true
  pub opens_there : is_open w.cells w.cursor ≡ true
  pub keeps : Keeps v.cells w.cells
  pub attributes : (q : ℕ) → q < length v.cells → is_attribute (cell_at v.cells q) ≡ true → cell_at w.cells q ≡ cell_at v.cells q
  pub sound : IsSound w

shifted_cell_real : (cells : List Cell) (c count : ℕ) → AreReal cells → (p : ℕ) → is_real (shifted_cell cells c count p) ≡ true
unfolding shifted_cell
shifted_cell_real cells c count each p =
    let steps : ℕ = ring_distance (length cells) c p in
    either_real (ltb 0 steps && leb steps count) (cell_at cells (ring_on (length cells) c (steps - 1))) (cell_at cells p) (each (ring_on (length cells) c (steps - 1))) (each p)

shifted_sound : (v : Picture) (count : ℕ) → IsSound v → IsSound (shifted v count)
shifted_sound v count s =
    record {
      default_good = s.default_good;
      alternate_good = s.alternate_good;
      one_of_two = s.one_of_two;
      whole = length-ruled (length v.cells) (shifted_cell v.cells v.cursor count) ∙ s.whole;
      cursor_inside = s.cursor_inside;
      characters = all_real _ (ruled_real (length v.cells) (shifted_cell v.cells v.cursor count) (shifted_cell_real v.cells v.cursor count (each_real v.cells s.characters)));
      attention = s.attention;
    }

same_ready : (v : Picture) → IsSound v → is_open v.cells v.cursor ≡ true → IsReady v v
same_ready v s opens = record { cursor = refl; opens = opens; opens_there = opens; keeps = keeps_same v.cells; attributes = λ q lt there. refl; sound = s }

shifted_ready : (v : Picture) (count : ℕ) → IsSound v → is_open v.cells v.cursor ≡ true → before_null v.cells v.size.cols v.cursor ≡ Some count → IsReady v (shifted v count)
shifted_ready v count s opens found =
    let inside : v.cursor < length v.cells = cursor_lt v s in
    let characters = null_characters v.cells v.size.cols v.cursor count inside found in
    let keeps = shifted_keeps v count inside opens characters in
    record {
      cursor = refl;
      opens = opens;
      opens_there = same_open v.cells (shifted v count).cells v.cursor keeps ∙ opens;
      keeps = keeps;
      attributes = λ q lt there. shifted_attribute v count q inside characters lt there;
      sound = shifted_sound v count s;
    }

some_same : (a b : Picture) → Some a ≡ Some b → a ≡ b
some_same a b e = cc

none_some : (w : Picture) → None ≡ Some w → ⊥
none_some w e = cc

by_null : (v w : Picture) (o : Option ℕ) → IsSound v → is_open v.cells v.cursor ≡ true → before_null v.cells v.size.cols v.cursor ≡ o → option_map (shifted v) o ≡ Some w → IsReady v w
by_null v w None s opens found is = absurd (none_some w is)
by_null v w (Some count) s opens found is = subst (IsReady v) (some_same (shifted v count) w is) (shifted_ready v count s opens found)

by_mode : (inserts : Bool) (v w : Picture) → IsSound v → is_open v.cells v.cursor ≡ true → made_room inserts v ≡ Some w → IsReady v w
by_mode false v w s opens is = subst (IsReady v) (some_same v w is) (same_ready v s opens)
by_mode true v w s opens is = by_null v w (before_null v.cells v.size.cols v.cursor) s opens refl is

pub ready_is : (inserts : Bool) (v w : Picture) → IsSound v → readied inserts v ≡ Some w → IsReady v w
ready_is inserts v w s is =
    elim (cases_Bool (is_open v.cells v.cursor)) [
      | inl opens ↦ by_mode inserts v w s opens (sym (cond-true (is_open v.cells v.cursor) (made_room inserts v) None opens) ∙ is)
      | inr shut ↦ absurd (none_some w (sym (cond-false (is_open v.cells v.cursor) (made_room inserts v) None shut) ∙ is))
    ]
