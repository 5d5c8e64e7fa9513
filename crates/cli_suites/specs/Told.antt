-- What is told of a job: what its command prints, and in the log of a suite its results.
use Rattle.std.specs.Prelude.{ℕ, List, [], Result, Ok, Err}
use Rattle.serde_json.specs.Data.{Data}
use Rattle.cli_commands.specs.Held.{answer_seen}
use Rattle.cli_commands.specs.Printed.{Printed}
use Rattle.cli_findings.specs.Results.{results_seen}
use Rattle.cli_suites.specs.declared.answers.Detail.{Detail}
use Rattle.cli_suites.specs.declared.answers.Detail.TheVariants.{Omitted, Explained}
use Rattle.cli_suites.specs.declared.job.Kind.{Kind}
use Rattle.cli_suites.specs.declared.job.Kind.TheVariants as kinds
use Rattle.cli_suites.specs.declared.report.Form.{Form}
use Rattle.cli_suites.specs.declared.report.Form.TheVariants.{Text, Json, Junit, Sarif}
use Rattle.cli_suites.specs.declared.told.Told as held
use Rattle.cli_suites.specs.Answers.{Held, Inputs, alone, answer_of, job_read, missing}
use Rattle.cli_suites.specs.Found.{alone_results, answered_results, missing_results}
use Rattle.cli_suites.specs.Job.{Asked, Known}

pub record Told : Type 0 where
  pub answer : Printed
  pub results : List Data

abbrev pub told_seen : held.Told → Told
told_seen told = record { answer = answer_seen told.answer; results = results_seen told.results }

-- explained in the form that has room for it
abbrev pub detail_of : Form → Detail
detail_of Text = Omitted
detail_of Json = Omitted
detail_of Junit = Explained
detail_of Sarif = Omitted

-- the log alone has results
abbrev pub in_log : Form → List Data → List Data
in_log Text results = []
in_log Json results = []
in_log Junit results = []
in_log Sarif results = results

abbrev pub told_with : Form → List ℕ → List Known → Asked → Inputs → Printed → Told
told_with form base accepted job inputs answer = record { answer = answer; results = in_log form (answered_results base accepted job inputs answer) }

abbrev pub inputs_told : Form → List ℕ → List Known → Asked → Inputs → Told
inputs_told form base accepted job inputs = told_with form base accepted job inputs (answer_of (detail_of form) job inputs)

abbrev pub missing_told : Form → List ℕ → List ℕ → Told
missing_told form base path = record { answer = missing path; results = in_log form (missing_results base path) }

abbrev pub alone_told : Form → List ℕ → Asked → Told
alone_told form base job = record { answer = alone job; results = in_log form (alone_results base job) }

abbrev pub told_or_missing : Form → List ℕ → List Known → Asked → Result Inputs (List ℕ) → Told
told_or_missing form base accepted job (Ok inputs) = inputs_told form base accepted job inputs
told_or_missing form base accepted job (Err path) = missing_told form base path

abbrev pub read_told : Form → List ℕ → Held → List Known → Asked → Told
read_told form base files accepted job = told_or_missing form base accepted job (job_read files job)

-- of a file that is alone nothing is read
abbrev pub told_by_kind : Kind → Form → List ℕ → Held → List Known → Asked → Told
told_by_kind kinds.Alone form base files accepted job = alone_told form base job
told_by_kind kinds.Screen form base files accepted job = read_told form base files accepted job
told_by_kind kinds.Dialogue form base files accepted job = read_told form base files accepted job
told_by_kind kinds.Map form base files accepted job = read_told form base files accepted job

abbrev pub job_told : Form → List ℕ → Held → List Known → Asked → Told
job_told form base files accepted job = told_by_kind job.kind form base files accepted job
