-- One more value of a list of tables, and of a list of texts.
use Rattle.std.proofs.Common.{◌≡◌, ◌∙◌, ℕ, ◌+◌, ◌<◌, ap, sym, ◌≤◌, drop, get_or, length, List, Some, None, Result, Ok}
use Rattle.std.proofs.lemmas.List.{drop_all}
use Rattle.toml.specs.Data.{Members, as_table}
use Rattle.toml.specs.View.{view, items_view}
use Rattle.toml.specs.declared.value.Value.{Value}
use Rattle.toml.proofs.Views.{items_view-drop}
use Rattle.cli_suites.specs.declared.fault.ManifestFault.{ManifestFault}
use Rattle.cli_suites.specs.declared.fault.ManifestError.{ManifestError}
use Rattle.cli_suites.specs.declared.fault.ManifestError.TheVariants.{OutOfMemory, Refused}
use Rattle.manifest_tables.specs.Results.{◌>>=◌}
use Rattle.manifest_tables.specs.Tables.{tables_in}
use Rattle.manifest_tables.proofs.Rows.{tables_in-table, tables_in-other}
use Rattle.cli_suites.specs.Results.{in_table, Fails}
use Rattle.cli_suites.specs.declared.fault.ManifestKey.{ManifestKey}
use Rattle.cli_suites.specs.declared.fault.ManifestKey.TheVariants.{Accepted}
use Rattle.cli_suites.specs.declared.tables.JobTable.{JobTable}
use Rattle.cli_suites.specs.Job.{Asked, Known}
use Rattle.cli_suites.specs.Manifest.{with_job, jobs_from, with_accepted, accepted_from}
use Rattle.cli_suites.specs.Tables.{key_of, texts_of, with_text}

-- a value that is a table
pub jobs_from-table : (kind : JobTable) (n : ℕ) (before : List Asked) (vs : List Value) (i : ℕ) (v : Value) (fields : Members) (r : Result (List Asked) ManifestFault)
    → i < length vs → v ≡ get_or vs i v → as_table (view v) ≡ Some fields → in_table (key_of kind) n (with_job kind before fields) ≡ r
    → jobs_from kind n before (tables_in (items_view (drop i vs))) ≡ (r >>= λ all. jobs_from kind (n + 1) all (tables_in (items_view (drop (i + 1) vs))))
unfolding jobs_from
jobs_from-table kind n before vs i v fields r h at seen read =
    let here : as_table (view (get_or vs i v)) ≡ Some fields = ap (λ x. as_table (view x)) (sym at) ∙ seen in
    rw (items_view-drop vs i v h, tables_in-table (view (get_or vs i v)) (items_view (drop (i + 1) vs)) fields here, read)

-- a value that is none
pub jobs_from-other : (kind : JobTable) (n : ℕ) (before : List Asked) (vs : List Value) (i : ℕ) (v : Value)
    → i < length vs → v ≡ get_or vs i v → as_table (view v) ≡ None
    → jobs_from kind n before (tables_in (items_view (drop i vs))) ≡ jobs_from kind n before (tables_in (items_view (drop (i + 1) vs)))
jobs_from-other kind n before vs i v h at seen =
    let here : as_table (view (get_or vs i v)) ≡ None = ap (λ x. as_table (view x)) (sym at) ∙ seen in
    rw (items_view-drop vs i v h, tables_in-other (view (get_or vs i v)) (items_view (drop (i + 1) vs)) here)

pub jobs_from-end : (kind : JobTable) (n : ℕ) (before : List Asked) (vs : List Value) (i : ℕ) → length vs ≤ i
    → jobs_from kind n before (tables_in (items_view (drop i vs))) ≡ Ok before
unfolding jobs_from
jobs_from-end kind n before vs i h = rw (drop_all i vs h)

pub accepted_from-table : (jobs : List Asked) (n : ℕ) (before : List Known) (vs : List Value) (i : ℕ) (v : Value) (fields : Members) (r : Result (List Known) ManifestFault)
    → i < length vs → v ≡ get_or vs i v → as_table (view v) ≡ Some fields → in_table Accepted n (with_accepted jobs before fields) ≡ r
    → accepted_from jobs n before (tables_in (items_view (drop i vs))) ≡ (r >>= λ all. accepted_from jobs (n + 1) all (tables_in (items_view (drop (i + 1) vs))))
unfolding accepted_from
accepted_from-table jobs n before vs i v fields r h at seen read =
    let here : as_table (view (get_or vs i v)) ≡ Some fields = ap (λ x. as_table (view x)) (sym at) ∙ seen in
    rw (items_view-drop vs i v h, tables_in-table (view (get_or vs i v)) (items_view (drop (i + 1) vs)) fields here, read)

pub accepted_from-other : (jobs : List Asked) (n : ℕ) (before : List Known) (vs : List Value) (i : ℕ) (v : Value)
    → i < length vs → v ≡ get_or vs i v → as_table (view v) ≡ None
    → accepted_from jobs n before (tables_in (items_view (drop i vs))) ≡ accepted_from jobs n before (tables_in (items_view (drop (i + 1) vs)))
accepted_from-other jobs n before vs i v h at seen =
    let here : as_table (view (get_or vs i v)) ≡ None = ap (λ x. as_table (view x)) (sym at) ∙ seen in
    rw (items_view-drop vs i v h, tables_in-other (view (get_or vs i v)) (items_view (drop (i + 1) vs)) here)

pub accepted_from-end : (jobs : List Asked) (n : ℕ) (before : List Known) (vs : List Value) (i : ℕ) → length vs ≤ i
    → accepted_from jobs n before (tables_in (items_view (drop i vs))) ≡ Ok before
unfolding accepted_from
accepted_from-end jobs n before vs i h = rw (drop_all i vs h)

-- a text of a list
pub texts_of-next : (key : ManifestKey) (before : List (List ℕ)) (vs : List Value) (i : ℕ) (v : Value) (r : Result (List (List ℕ)) ManifestFault)
    → i < length vs → v ≡ get_or vs i v → with_text key before (view v) ≡ r
    → texts_of key before (items_view (drop i vs)) ≡ (r >>= λ texts. texts_of key texts (items_view (drop (i + 1) vs)))
unfolding texts_of
texts_of-next key before vs i v r h at read =
    let here : with_text key before (view (get_or vs i v)) ≡ r = ap (λ x. with_text key before (view x)) (sym at) ∙ read in
    rw (items_view-drop vs i v h, here)

pub texts_of-end : (key : ManifestKey) (before : List (List ℕ)) (vs : List Value) (i : ℕ) → length vs ≤ i → texts_of key before (items_view (drop i vs)) ≡ Ok before
unfolding texts_of
texts_of-end key before vs i h = rw (drop_all i vs h)

-- a fault of the next step is the fault of all
pub Fails-bind : {A B : Type 0} (e : ManifestError) (r : Result A ManifestFault) (f : A → Result B ManifestFault) (all : Result B ManifestFault) → Fails e r → all ≡ (r >>= f) → Fails e all
Fails-bind OutOfMemory r f all h due = tt
Fails-bind (Refused e) r f all h due = rw (due, h)
