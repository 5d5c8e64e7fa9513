-- The tables among the values of a list.
use Rattle.std.proofs.Common.{◌≡◌, Bool, true, false, nat_le, ◌&&◌, Some, Ok, Err, ◌<◌, ◌≤◌, le-leb, List, length, refl}
use Rattle.std.proofs.lemmas.Bool.{lt-leb}
use Rattle.toml.specs.Data.{Data, as_array}
use Rattle.toml.specs.View.{items_view}
use Rattle.toml.specs.declared.value.Value.{Value}
use Rattle.manifest_tables.specs.Tables.{tables_in, are_tables}
use Rattle.manifest_tables.proofs.Rows.{length-tables_in}
use Rattle.cli_applications.specs.Manifest.{tables_of}
use Rattle.cli_applications.specs.declared.fault.ManifestKey.TheVariants.{Screen}
use Rattle.cli_applications.specs.declared.fault.Why.TheVariants.{BadCount}
use Rattle.cli_applications.specs.Fault.{at_key}

and_false : (b : Bool) → (b && false) ≡ false
and_false true = refl
and_false false = refl

-- a list of tables, and of how many
pub tables_of-many : (d : Data) (vs : List Value) → as_array d ≡ Some (items_view vs) → are_tables (items_view vs) ≡ true → 1000 < length vs
    → tables_of d ≡ Err (at_key Screen BadCount)
unfolding tables_of
tables_of-many d vs seen all many = rw (seen, all, length-tables_in vs all, lt-leb _ _ many, and_false (nat_le 1 (length vs))) refl

pub tables_of-none : (d : Data) (vs : List Value) → as_array d ≡ Some (items_view vs) → are_tables (items_view vs) ≡ true → length vs < 1
    → tables_of d ≡ Err (at_key Screen BadCount)
unfolding tables_of
tables_of-none d vs seen all none = rw (seen, all, length-tables_in vs all, lt-leb _ _ none) refl

pub tables_of-few : (d : Data) (vs : List Value) → as_array d ≡ Some (items_view vs) → are_tables (items_view vs) ≡ true → 1 ≤ length vs → length vs ≤ 1000
    → tables_of d ≡ Ok (tables_in (items_view vs))
unfolding tables_of
tables_of-few d vs seen all some few = rw (seen, all, length-tables_in vs all, le-leb _ _ some, le-leb _ _ few) refl
