-- The manifest that a text says, or its first refusal.
use Rattle.std.specs.Prelude.{String, ◌≡◌, ℕ, ◌+◌, Bool, true, false, not, ◌&&◌, ◌||◌, nat_eq, bytes_eq, codes, List, [], ◌∷◌, ◌++◌, ok_or, Result, Ok, Err, if◌then◌else◌}
use Rattle.std.specs.List.{list_any, starts_with}
use Rattle.std.specs.BTreeSet.{BTreeSet, contains_text}
use Rattle.std.specs.Str.{is_utf8}
use Rattle.toml.specs.Data.{Members}
use Rattle.toml.specs.Parse.{parse_document}
use Rattle.cli_suites.specs.declared.fault.ManifestKey.{ManifestKey}
use Rattle.cli_suites.specs.declared.fault.ManifestKey.TheVariants.{Screen, Dialogue, Map, Accepted, Name, Finding}
use Rattle.cli_suites.specs.declared.fault.ManifestError.{ManifestError}
use Rattle.cli_suites.specs.declared.fault.ManifestError.TheVariants.{Refused}
use Rattle.cli_suites.specs.declared.fault.ManifestFault.{ManifestFault}
use Rattle.cli_suites.specs.declared.fault.Why.{Why}
use Rattle.cli_suites.specs.declared.fault.Why.TheVariants.{Twice, NoSuchScreen, NotAcceptable}
use Rattle.cli_suites.specs.declared.job.Kind.{Kind}
use Rattle.cli_suites.specs.declared.job.Kind.TheVariants as kinds
use Rattle.cli_suites.specs.declared.manifest.Manifest as held
use Rattle.cli_suites.specs.declared.tables.JobTable.{JobTable}
use Rattle.cli_suites.specs.declared.tables.JobTable.TheVariants as tables
use Rattle.cli_suites.specs.Fault.{at_key, not_toml}
use Rattle.cli_suites.specs.Job.{Asked, Known}
use Rattle.manifest_tables.specs.Results.{◌>>=◌, tested}
use Rattle.cli_suites.specs.Results.{in_table}
use Rattle.cli_suites.specs.Tables.{key_of, job_of, accepted_of, tables_at}
use Rattle.cli_suites.specs.Values.{with_only}

-- what is checked, and what is known
pub record Declared : Type 0 where
  pub jobs : List Asked
  pub accepted : List Known

abbrev pub manifest_seen : held.Manifest → Declared
manifest_seen manifest = record { jobs = manifest.jobs.items; accepted = manifest.accepted.items }

-- ---- the screens, the dialogues and the sources of maps

abbrev pub has_name : List ℕ → List Asked → Bool
has_name name jobs = list_any (λ job. bytes_eq job.name name) jobs

-- the set is that of their names
abbrev pub AreNames : {Y : Type 0} → List Asked → BTreeSet (String Y) → Type 0
AreNames jobs names = (name : List ℕ) → contains_text names name ≡ has_name name jobs

-- one more, of a name that none before it has
unfoldable pub with_job : JobTable → List Asked → Members → Result (List Asked) ManifestFault
with_job kind before fields = do
  job ← job_of kind fields
  tested (not (has_name job.name before)) (before ++ job ∷ []) (at_key Name Twice)

-- those of the tables from the n-th on, behind those before
unfoldable pub jobs_from : JobTable → ℕ → List Asked → List Members → Result (List Asked) ManifestFault
jobs_from kind n before [] = Ok before
jobs_from kind n before (table ∷ tables) = do
  jobs ← in_table (key_of kind) n (with_job kind before table)
  jobs_from kind (n + 1) jobs tables

unfoldable pub jobs_at : JobTable → List Asked → Members → Result (List Asked) ManifestFault
jobs_at kind before top = tables_at (key_of kind) top >>= jobs_from kind 0 before

-- ---- the findings that are accepted

abbrev pub is_screen : Kind → Bool
is_screen kinds.Screen = true
is_screen kinds.Dialogue = false
is_screen kinds.Map = false
is_screen kinds.Alone = false

abbrev pub is_screen_of : List ℕ → List Asked → Bool
is_screen_of name jobs = list_any (λ job. is_screen job.kind && bytes_eq job.name name) jobs

-- It is of a field. After one of the records nothing more is checked, so whoever accepts it would accept what comes after it, unseen.
abbrev pub is_acceptable : List ℕ → Bool
is_acceptable finding =
    starts_with nat_eq finding (codes "F8 ") || starts_with nat_eq finding (codes "F9 ") || starts_with nat_eq finding (codes "F10 ")
    || starts_with nat_eq finding (codes "F11 ") || starts_with nat_eq finding (codes "F12 ") || starts_with nat_eq finding (codes "F13 ")

abbrev pub is_known : List ℕ → List ℕ → Known → Bool
is_known screen finding known = bytes_eq known.screen screen && bytes_eq known.finding finding

abbrev pub has_known : List ℕ → List ℕ → List Known → Bool
has_known screen finding accepted = list_any (is_known screen finding) accepted

abbrev pub refused : ManifestKey → Why → ManifestError
refused key why = Refused (at_key key why)

-- one more, of a screen that is there, unless it is accepted already
unfoldable pub accepted_with : List Asked → List Known → Known → Result (List Known) ManifestFault
accepted_with jobs before known = do
  there ← tested (is_screen_of known.screen jobs) known (at_key Screen NoSuchScreen)
  field ← tested (is_acceptable known.finding) known (at_key Finding NotAcceptable)
  tested (not (has_known known.screen known.finding before)) (before ++ known ∷ []) (at_key Finding Twice)

unfoldable pub with_accepted : List Asked → List Known → Members → Result (List Known) ManifestFault
with_accepted jobs before table = accepted_of table >>= accepted_with jobs before

unfoldable pub accepted_from : List Asked → ℕ → List Known → List Members → Result (List Known) ManifestFault
accepted_from jobs n before [] = Ok before
accepted_from jobs n before (table ∷ tables) = do
  accepted ← in_table Accepted n (with_accepted jobs before table)
  accepted_from jobs (n + 1) accepted tables

unfoldable pub accepted_at : List Asked → Members → Result (List Known) ManifestFault
accepted_at jobs top = tables_at Accepted top >>= accepted_from jobs 0 []

-- ---- the manifest

abbrev pub top_keys : List ManifestKey
top_keys = Screen ∷ Dialogue ∷ Map ∷ Accepted ∷ []

-- the keys at the top, then each kind of table
unfoldable pub declaration_of : Members → Result Declared ManifestFault
declaration_of table = do
  top ← with_only top_keys table
  screens ← jobs_at tables.Screen [] top
  dialogues ← jobs_at tables.Dialogue screens top
  jobs ← jobs_at tables.Map dialogues top
  accepted ← accepted_at jobs top
  Ok (record { jobs = jobs; accepted = accepted })

abbrev pub table_of : List ℕ → Result Members ManifestFault
table_of text = ok_or (parse_document text) not_toml

abbrev pub manifest_of : List ℕ → Result Declared ManifestFault
manifest_of text = table_of text >>= declaration_of

-- bytes that are no text are no TOML
abbrev pub manifest_in : List ℕ → Result Declared ManifestFault
manifest_in bytes = if is_utf8 bytes then manifest_of bytes else Err not_toml
