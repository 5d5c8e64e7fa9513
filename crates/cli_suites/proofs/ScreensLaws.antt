-- Screens of the usual form, read one after the other, and what the whole manifest says.
use Rattle.std.proofs.Common.{◌≡◌, ℕ, ◌+◌, ◌≤◌, le-leb, true, false, List, [], ◌∷◌, ◌++◌, length, length-append, Result, Ok, Err, refl, ap, ◌∙◌}
use Rattle.toml.specs.Data.{string, array, table, Items, no_items, Members, no_members, member, push_item}
use Rattle.plain_tables.specs.Plain.{GoesOn, IsPut, valued}
use Rattle.plain_tables.proofs.Laws.{put_goes_on, both_go_on}
use Rattle.manifest_tables.specs.Results.{◌>>=◌}
use Rattle.manifest_tables.specs.Tables.{tables_in, are_tables}
use Rattle.manifest_tables.specs.Values.{text_of, needed_text}
use Rattle.manifest_tables.proofs.Rows.{tables_in-push}
use Rattle.cli_suites.specs.declared.fault.ManifestKey.{ManifestKey}
use Rattle.cli_suites.specs.declared.fault.ManifestKey.TheVariants.{Screen, Name, Records, Layout}
use Rattle.cli_suites.specs.declared.job.Kind.TheVariants as kinds
use Rattle.cli_suites.specs.declared.tables.JobTable.TheVariants as tables
use Rattle.cli_suites.specs.Fault.{key_text}
use Rattle.cli_suites.specs.Job.{Asked}
use Rattle.cli_suites.specs.Results.{in_table}
use Rattle.cli_suites.specs.Tables.{screen_of, tables_of, tables_at}
use Rattle.cli_suites.specs.Manifest.{has_name, with_job, jobs_from, jobs_at, accepted_from, accepted_at, declaration_of}
use Rattle.cli_suites.specs.Plain.{Says}

-- ---- one screen

abbrev pub one_screen : List ℕ → List ℕ → List ℕ → Asked
one_screen name records layout = record { kind = kinds.Screen; name = name; records = records; layouts = layout ∷ [] }

abbrev with_name : List ℕ → Members → Members
with_name name rest = member (key_text Name) (string name) rest

abbrev with_records : List ℕ → Members → Members
with_records records rest = member (key_text Records) (string records) rest

abbrev with_layout : List ℕ → Members → Members
with_layout layout rest = member (key_text Layout) (string layout) rest

-- a pair comes to those before it
said : (ms now : Members) (key : ManifestKey) (text value rest : List ℕ) → Says key text value rest
    → IsPut ms (key_text key) (string value) now → GoesOn ms text now rest
said ms now key text value rest (read, shorter, within, good) put = put_goes_on ms now (key_text key) (string value) text rest read shorter within put

pub said_screen : (s one two rest name records layout : List ℕ) → Says Name s name one → Says Records one records two → Says Layout two layout rest
    → (fields : Members) × GoesOn no_members s fields rest × (screen_of fields ≡ Ok (one_screen name records layout))
unfolding valued screen_of needed_text text_of
said_screen s one two rest name records layout named recorded laid =
    let first = with_name name no_members in
    let second = with_name name (with_records records no_members) in
    let third = with_layout layout second in (
      third,
      both_go_on no_members second third s two rest
          (both_go_on no_members first second s one two (said no_members first Name s name one named (refl, refl)) (said first second Records one records two recorded (refl, refl)))
          (said second third Layout two layout rest laid (refl, refl)),
      rw (named.3, recorded.3, laid.3) refl,
    )

-- ---- one more

pub one_job : (before : List Asked) (fields : Members) (job : Asked) → screen_of fields ≡ Ok job → has_name job.name before ≡ false
    → with_job tables.Screen before fields ≡ Ok (before ++ job ∷ [])
unfolding with_job
one_job before fields job read new = rw (read, new) refl

bind_ok : {A B F : Type 0} (r : Result A F) (f : A → Result B F) (y : B) → (r >>= f) ≡ Ok y → (x : A) × (r ≡ Ok x) × (f x ≡ Ok y)
bind_ok (Ok x) f y h = (x, refl, h)
bind_ok (Err e) f y h = absurd cc

jobs_more : (n : ℕ) (before jobs now : List Asked) (ts : List Members) (ms : Members) → jobs_from tables.Screen n before ts ≡ Ok jobs
    → with_job tables.Screen jobs ms ≡ Ok now → jobs_from tables.Screen n before (ts ++ ms ∷ []) ≡ Ok now
unfolding jobs_from
jobs_more n before jobs now [] ms read more =
    let same : before ≡ jobs = cc in
    rw (same, more) refl
jobs_more n before jobs now (t ∷ ts) ms read more =
    let (next, here, rest) = bind_ok (in_table Screen n (with_job tables.Screen before t)) (λ all. jobs_from tables.Screen (n + 1) all ts) jobs read in
    rw here (jobs_more (n + 1) next jobs now ts ms rest more)

pub pushed_jobs : (done : Items) (ms : Members) (jobs now : List Asked) → jobs_from tables.Screen 0 [] (tables_in done) ≡ Ok jobs
    → with_job tables.Screen jobs ms ≡ Ok now → jobs_from tables.Screen 0 [] (tables_in (push_item done (table ms))) ≡ Ok now
pushed_jobs done ms jobs now read more =
    ap (jobs_from tables.Screen 0 []) (tables_in-push done ms) ∙ jobs_more 0 [] jobs now (tables_in done) ms read more

pub pushed_count : (done : Items) (ms : Members) → length (tables_in (push_item done (table ms))) ≡ length (tables_in done) + 1
pushed_count done ms = ap length (tables_in-push done ms) ∙ length-append (tables_in done) (ms ∷ [])

pub no_jobs : (jobs : List Asked) → jobs ≡ [] → jobs_from tables.Screen 0 [] (tables_in no_items) ≡ Ok jobs
unfolding jobs_from
no_jobs jobs none = rw none refl

-- ---- the whole manifest

pub says_screens : (items : Items) (jobs : List Asked) → are_tables items ≡ true → length (tables_in items) ≤ 10000
    → jobs_from tables.Screen 0 [] (tables_in items) ≡ Ok jobs
    → declaration_of (member (key_text Screen) (array items) no_members) ≡ Ok (record { jobs = jobs; accepted = [] })
unfolding declaration_of jobs_at tables_at tables_of accepted_at accepted_from jobs_from
says_screens items jobs all few read = rw (all, le-leb _ _ few, read) refl
