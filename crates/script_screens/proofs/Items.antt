-- Items that are looked for, and Query with words.
use Rattle.std.proofs.Common.{◌≡◌, ◌≤◌, ◌<◌, ◌+◌, ℕ, zero, suc, List, [], ◌∷◌, ◌++◌, length, map, drop, get_or, codes, false, Option, refl, arith}
use Rattle.std.specs.Str.{str_eq_ignore_ascii_case}
use Rattle.ds_screen.specs.Picture.{Picture}
use Rattle.script_screens.specs.declared.item.Item.{Item}
use Rattle.script_screens.specs.declared.query.Query.{Query}
use Rattle.script_screens.specs.Lines.{failed}
use Rattle.script_screens.specs.Status.{Link}
use Rattle.script_screens.specs.Query.{Named, item_name, item_in, query_name, said_of_query}

pub passed : (items : List Item) (i : ℕ) (default : Item) (text : List ℕ) → i < length items
    → str_eq_ignore_ascii_case text (item_name (get_or items i default)) ≡ false → item_in (drop i items) text ≡ item_in (drop (i + 1) items) text
passed [] i default text inside fails = absurd (omega (arith, inside))
passed (item ∷ items) zero default text inside fails = rw fails refl
passed (item ∷ items) (suc i) default text inside fails =
    let e : suc i + 1 ≡ suc (i + 1) = omega arith in rw e (passed items i default text (omega (arith, inside)) fails)

pub many_words : {X : Type 0} (f : X → List ℕ) (v : Picture) (link : Option Link) (device : Named) (name : Query) (xs : List X) → 2 ≤ length xs
    → said_of_query v link device name (map f xs) ≡ failed (query_name name ++ codes "() requires 0 or 1 arguments")
many_words f v link device name [] many = absurd (omega (arith, many))
many_words f v link device name (x ∷ []) many = absurd (omega (arith, many))
many_words f v link device name (x ∷ y ∷ xs) many = refl
