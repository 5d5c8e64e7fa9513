-- One more step of the loops of a manifest.
use Rattle.std.proofs.Common.{◌≡◌, ◌∙◌, ℕ, ◌+◌, ◌<◌, ap, sym, ◌≤◌, drop, get_or, length, List, Some, None, Result, Ok}
use Rattle.std.proofs.lemmas.List.{drop_all}
use Rattle.toml.specs.Data.{Members, as_table}
use Rattle.toml.specs.View.{view, items_view}
use Rattle.toml.specs.declared.value.Value.{Value}
use Rattle.toml.proofs.Views.{items_view-drop}
use Rattle.cli_applications.specs.declared.fault.ManifestFault.{ManifestFault}
use Rattle.cli_applications.specs.declared.fault.ManifestError.{ManifestError}
use Rattle.cli_applications.specs.declared.fault.ManifestError.TheVariants.{OutOfMemory, Refused}
use Rattle.manifest_tables.specs.Results.{◌>>=◌}
use Rattle.manifest_tables.specs.Tables.{tables_in}
use Rattle.manifest_tables.proofs.Rows.{tables_in-table, tables_in-other}
use Rattle.cli_applications.specs.Results.{in_screen, Fails}
use Rattle.cli_applications.specs.Manifest.{Named, with_screen, screens_from}

-- a value that is a table
pub screens_from-table : (n : ℕ) (before : List Named) (vs : List Value) (i : ℕ) (v : Value) (fields : Members) (r : Result (List Named) ManifestFault)
    → i < length vs → v ≡ get_or vs i v → as_table (view v) ≡ Some fields → in_screen n (with_screen before fields) ≡ r
    → screens_from n before (tables_in (items_view (drop i vs))) ≡ (r >>= λ all. screens_from (n + 1) all (tables_in (items_view (drop (i + 1) vs))))
unfolding screens_from
screens_from-table n before vs i v fields r h at seen read =
    let here : as_table (view (get_or vs i v)) ≡ Some fields = ap (λ x. as_table (view x)) (sym at) ∙ seen in
    rw (items_view-drop vs i v h, tables_in-table (view (get_or vs i v)) (items_view (drop (i + 1) vs)) fields here, read)

-- a value that is none
pub screens_from-other : (n : ℕ) (before : List Named) (vs : List Value) (i : ℕ) (v : Value)
    → i < length vs → v ≡ get_or vs i v → as_table (view v) ≡ None
    → screens_from n before (tables_in (items_view (drop i vs))) ≡ screens_from n before (tables_in (items_view (drop (i + 1) vs)))
screens_from-other n before vs i v h at seen =
    let here : as_table (view (get_or vs i v)) ≡ None = ap (λ x. as_table (view x)) (sym at) ∙ seen in
    rw (items_view-drop vs i v h, tables_in-other (view (get_or vs i v)) (items_view (drop (i + 1) vs)) here)

pub screens_from-end : (n : ℕ) (before : List Named) (vs : List Value) (i : ℕ) → length vs ≤ i
    → screens_from n before (tables_in (items_view (drop i vs))) ≡ Ok before
unfolding screens_from
screens_from-end n before vs i h = rw (drop_all i vs h)

-- a fault of the next step is the fault of all
pub Fails-bind : {A B : Type 0} (e : ManifestError) (r : Result A ManifestFault) (f : A → Result B ManifestFault) (all : Result B ManifestFault) → Fails e r → all ≡ (r >>= f) → Fails e all
Fails-bind OutOfMemory r f all h due = tt
Fails-bind (Refused e) r f all h due = rw (due, h)
