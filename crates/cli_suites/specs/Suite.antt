-- What `suite` prints, as a function of the manifest's bytes and of the files' bytes, and its status.
use Rattle.std.specs.Prelude.{ℕ, Bool, true, nat_lt, bytes_eq, codes, List, [], ◌∷◌, ◌++◌, length, Option, Some, None, Result, Ok, Err, if◌then◌else◌}
use Rattle.cli_commands.specs.declared.status.Status.TheVariants.{BadInput}
use Rattle.cli_commands.specs.Printed.{Printed, printed}
use Rattle.cli_findings.specs.Results.{refused_result}
use Rattle.cli_suites.specs.declared.fault.ManifestFault.{ManifestFault}
use Rattle.cli_suites.specs.declared.report.Form.{Form}
use Rattle.cli_suites.specs.declared.report.Form.TheVariants.{Text, Json, Junit, Sarif}
use Rattle.cli_suites.specs.Answers.{Held}
use Rattle.cli_suites.specs.Fault.{fault_text}
use Rattle.cli_suites.specs.Folder.{jobs_of_paths}
use Rattle.cli_suites.specs.Job.{Asked, Known}
use Rattle.cli_suites.specs.Json.{refusal_line}
use Rattle.cli_suites.specs.Junit.{junit_refusal}
use Rattle.cli_suites.specs.Manifest.{Declared, has_name, manifest_in}
use Rattle.cli_suites.specs.Report.{Reported, add, log_text, no_report, printed_report}
use Rattle.cli_suites.specs.Settled.{settle}
use Rattle.cli_suites.specs.Told.{Told, job_told}

-- ---- one screen after the other

-- all where none is named
abbrev pub is_asked : Option (List ℕ) → Asked → Bool
is_asked None job = true
is_asked (Some name) job = bytes_eq job.name name

-- what its command answers, under its own name
abbrev pub add_told : Form → List Known → Reported → List ℕ → Told → Reported
add_told form accepted report name told = add form report name (settle name accepted told.answer) told.results

abbrev pub add_job : Form → List ℕ → Held → List Known → Reported → Asked → Reported
add_job form base files accepted report job = add_told form accepted report job.name (job_told form base files accepted job)

abbrev pub after_job : Form → List ℕ → Held → List Known → Option (List ℕ) → Reported → Asked → Reported
after_job form base files accepted only report job = if is_asked only job then add_job form base files accepted report job else report

abbrev pub all_jobs : Form → List ℕ → Held → List Known → Option (List ℕ) → Reported → List Asked → Reported
all_jobs form base files accepted only report [] = report
all_jobs form base files accepted only report (job ∷ jobs) = all_jobs form base files accepted only (after_job form base files accepted only report job) jobs

-- ---- a suite that is refused

-- the log names the manifest, or the folder
abbrev pub refused_log : List ℕ → List ℕ → List ℕ
refused_log origin words = log_text (refused_result origin 1 words ∷ [])

abbrev pub refused_text : Form → List ℕ → List ℕ → List ℕ
refused_text Text origin words = words ++ codes "\n"
refused_text Json origin words = refusal_line words
refused_text Junit origin words = junit_refusal words
refused_text Sarif origin words = refused_log origin words

abbrev pub refused_suite : Form → List ℕ → List ℕ → Printed
refused_suite form origin words = printed (refused_text form origin words) BadInput

abbrev pub fault_words : ManifestFault → List ℕ
fault_words fault = codes "manifest refused: " ++ fault_text fault

-- ---- the suite

-- a screen of the name is there
abbrev pub has_asked : Option (List ℕ) → List Asked → Bool
has_asked None jobs = true
has_asked (Some name) jobs = has_name name jobs

-- In the log paths stand behind that of the folder from which they go.
abbrev pub some_jobs : Form → List ℕ → Held → List Known → Option (List ℕ) → List Asked → Printed
some_jobs form base files accepted only jobs = printed_report form (all_jobs form base files accepted only no_report jobs)

abbrev pub printed_jobs : Form → List ℕ → List ℕ → Held → Option (List ℕ) → List Asked → List Known → Printed
printed_jobs form base origin files only jobs accepted =
    if has_asked only jobs then some_jobs form base files accepted only jobs else refused_suite form origin (codes "no screen of this name")

abbrev pub told_suite : Form → List ℕ → List ℕ → Held → Option (List ℕ) → Declared → Printed
told_suite form base origin files only manifest = printed_jobs form base origin files only manifest.jobs manifest.accepted

abbrev pub suite_or_refusal : Form → List ℕ → List ℕ → Held → Option (List ℕ) → Result Declared ManifestFault → Printed
suite_or_refusal form base origin files only (Ok manifest) = told_suite form base origin files only manifest
suite_or_refusal form base origin files only (Err fault) = refused_suite form origin (fault_words fault)

-- more bytes than an input may have
unfoldable pub is_long : List ℕ → Bool
is_long text = nat_lt 16777216 (length text)

-- what `suite` prints of a manifest
abbrev pub printed_suite : Form → List ℕ → List ℕ → Held → Option (List ℕ) → List ℕ → Printed
printed_suite form base origin files only text =
    if is_long text then refused_suite form origin (codes "manifest too long")
    else suite_or_refusal form base origin files only (manifest_in text)

-- what it prints of the paths of a folder
abbrev pub printed_folder : Form → List ℕ → List ℕ → Held → Option (List ℕ) → List (List ℕ) → Printed
printed_folder form base origin files only paths = printed_jobs form base origin files only (jobs_of_paths paths) []
