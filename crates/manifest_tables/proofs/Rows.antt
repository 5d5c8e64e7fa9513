-- The tables among the values of a list.
use Rattle.std.proofs.Common.{◌≡◌, ℕ, suc, true, ◌&&◌, is_some, Some, None, List, [], ◌∷◌, ◌++◌, length, refl, ap, ◌∙◌}
use Rattle.std.specs.List.{list_all}
use Rattle.toml.specs.Data.{Data, string, integer, float, boolean, datetime, array, table, Items, no_items, item, Members, push_item, as_table}
use Rattle.toml.specs.View.{view, items_view}
use Rattle.toml.specs.declared.value.Value.{Value}
use Rattle.manifest_tables.specs.Tables.{tables_in, are_tables}

are_tables-item : (d : Data) (rest : Items) → (is_some (as_table d) && are_tables rest) ≡ are_tables (item d rest)
are_tables-item (string s) rest = refl
are_tables-item (integer z) rest = refl
are_tables-item (float x) rest = refl
are_tables-item (boolean b) rest = refl
are_tables-item (datetime t) rest = refl
are_tables-item (array ds) rest = refl
are_tables-item (table ms) rest = refl

pub are_tables-items_view : (vs : List Value) → list_all (λ v. is_some (as_table (view v))) vs ≡ are_tables (items_view vs)
are_tables-items_view [] = refl
are_tables-items_view (v ∷ vs) =
    ap (λ b. is_some (as_table (view v)) && b) (are_tables-items_view vs) ∙ are_tables-item (view v) (items_view vs)

length-item : (d : Data) (rest : Items) (n : ℕ) → are_tables (item d rest) ≡ true → (are_tables rest ≡ true → length (tables_in rest) ≡ n) → length (tables_in (item d rest)) ≡ suc n
length-item (table ms) rest n h ih = ap suc (ih h)
length-item (string s) rest n h ih = cc
length-item (integer z) rest n h ih = cc
length-item (float x) rest n h ih = cc
length-item (boolean b) rest n h ih = cc
length-item (datetime t) rest n h ih = cc
length-item (array ds) rest n h ih = cc

-- where all are tables, none is left out
pub length-tables_in : (vs : List Value) → are_tables (items_view vs) ≡ true → length (tables_in (items_view vs)) ≡ length vs
length-tables_in [] h = refl
length-tables_in (v ∷ vs) h = length-item (view v) (items_view vs) (length vs) h (length-tables_in vs)

-- one more item, a table or another
pub tables_in-table : (d : Data) (rest : Items) (fields : Members) → as_table d ≡ Some fields → tables_in (item d rest) ≡ fields ∷ tables_in rest
tables_in-table (table ms) rest fields h = cc
tables_in-table (string s) rest fields h = cc
tables_in-table (integer z) rest fields h = cc
tables_in-table (float x) rest fields h = cc
tables_in-table (boolean b) rest fields h = cc
tables_in-table (datetime t) rest fields h = cc
tables_in-table (array ds) rest fields h = cc

pub tables_in-other : (d : Data) (rest : Items) → as_table d ≡ None → tables_in (item d rest) ≡ tables_in rest
tables_in-other (table ms) rest h = cc
tables_in-other (string s) rest h = refl
tables_in-other (integer z) rest h = refl
tables_in-other (float x) rest h = refl
tables_in-other (boolean b) rest h = refl
tables_in-other (datetime t) rest h = refl
tables_in-other (array ds) rest h = refl

-- one more table behind all items
pub tables_in-push : (done : Items) (ms : Members) → tables_in (push_item done (table ms)) ≡ tables_in done ++ ms ∷ []
tables_in-push no_items ms = refl
tables_in-push (item (table fields) rest) ms = ap (λ l. fields ∷ l) (tables_in-push rest ms)
tables_in-push (item (string s) rest) ms = tables_in-push rest ms
tables_in-push (item (integer z) rest) ms = tables_in-push rest ms
tables_in-push (item (float x) rest) ms = tables_in-push rest ms
tables_in-push (item (boolean b) rest) ms = tables_in-push rest ms
tables_in-push (item (datetime t) rest) ms = tables_in-push rest ms
tables_in-push (item (array ds) rest) ms = tables_in-push rest ms

pub are_tables-push : (done : Items) (ms : Members) → are_tables (push_item done (table ms)) ≡ are_tables done
are_tables-push no_items ms = refl
are_tables-push (item (table fields) rest) ms = are_tables-push rest ms
are_tables-push (item (string s) rest) ms = refl
are_tables-push (item (integer z) rest) ms = refl
are_tables-push (item (float x) rest) ms = refl
are_tables-push (item (boolean b) rest) ms = refl
are_tables-push (item (datetime t) rest) ms = refl
are_tables-push (item (array ds) rest) ms = refl
