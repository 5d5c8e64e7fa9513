-- The set of the names of jobs, where one more job comes to them.
use Rattle.std.proofs.Common.{◌≡◌, ◌∙◌, Bool, true, false, ◌||◌, cond, bytes_eq, String, List, [], ◌∷◌, ◌++◌, refl, sym, ap}
use Rattle.std.specs.BTreeSet.{BTreeSet, Updates}
use Rattle.std.specs.String.{string_cmp, string_bytes}
use Rattle.std.proofs.lemmas.List.Folds.{list_any-append}
use Rattle.std.proofs.lemmas.Map.Text.{btree_set_updates_text}
use Rattle.cli_suites.specs.Job.{Asked}
use Rattle.cli_suites.specs.Manifest.{has_name, AreNames}

with_one : (b r : Bool) → cond b true r ≡ (r || (b || false))
with_one true true = refl
with_one true false = refl
with_one false true = refl
with_one false false = refl

pub names_and : {Y : Type 0} (jobs all : List Asked) (job : Asked) (names now : BTreeSet (String Y)) (key : String Y) → all ≡ jobs ++ job ∷ []
    → string_bytes key ≡ job.name → Updates string_cmp names now key true → AreNames jobs names → AreNames all now
names_and jobs all job names now key is same updates before name =
    btree_set_updates_text (string_bytes key) names now true updates name
    ∙ ap (λ b. cond (bytes_eq (string_bytes key) name) true b) (before name)
    ∙ ap (λ bytes. cond (bytes_eq bytes name) true (has_name name jobs)) same
    ∙ with_one (bytes_eq job.name name) (has_name name jobs)
    ∙ sym (list_any-append (λ (j : Asked). bytes_eq j.name name) jobs (job ∷ []))
    ∙ ap (has_name name) (sym is)
