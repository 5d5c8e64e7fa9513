-- The tables among the values of a list.
use Rattle.std.proofs.Common.{◌≡◌, Bool, true, ◌||◌, map, Some, Ok, Err, ◌<◌, ◌≤◌, le-leb, List, [], ◌∷◌, length, refl, ap}
use Rattle.std.proofs.lemmas.Bool.{lt-leb}
use Rattle.std.specs.List.{list_any}
use Rattle.toml.specs.Data.{Data, as_array}
use Rattle.toml.specs.View.{items_view}
use Rattle.toml.specs.declared.value.Value.{Value}
use Rattle.manifest_tables.specs.Tables.{tables_in, are_tables}
use Rattle.manifest_tables.proofs.Rows.{length-tables_in}
use Rattle.cli_suites.specs.Tables.{tables_of}
use Rattle.cli_suites.specs.declared.fault.ManifestKey.{ManifestKey}
use Rattle.cli_suites.specs.declared.fault.Why.TheVariants.{BadCount}
use Rattle.cli_suites.specs.Fault.{at_key}

-- a list of tables, and of how many
pub tables_of-many : (key : ManifestKey) (d : Data) (vs : List Value) → as_array d ≡ Some (items_view vs) → are_tables (items_view vs) ≡ true → 10000 < length vs
    → tables_of key d ≡ Err (at_key key BadCount)
unfolding tables_of
tables_of-many key d vs seen all many = rw (seen, all, length-tables_in vs all, lt-leb _ _ many)

pub tables_of-few : (key : ManifestKey) (d : Data) (vs : List Value) → as_array d ≡ Some (items_view vs) → are_tables (items_view vs) ≡ true → length vs ≤ 10000
    → tables_of key d ≡ Ok (tables_in (items_view vs))
unfolding tables_of
tables_of-few key d vs seen all few = rw (seen, all, length-tables_in vs all, le-leb _ _ few)

pub list_any-map : {A B : Type 0} (p : B → Bool) (f : A → B) (xs : List A) → list_any p (map f xs) ≡ list_any (λ x. p (f x)) xs
list_any-map p f [] = refl
list_any-map p f (x ∷ xs) = ap (λ b. p (f x) || b) (list_any-map p f xs)
