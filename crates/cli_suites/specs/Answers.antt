-- What is found of one job: what its command prints of its files.
use Rattle.std.specs.Prelude.{◌≡◌, ℕ, false, List, [], ◌∷◌, ◌++◌, map, codes, Option, Some, None, ok_or, slice_get, Result, Ok, Err}
use Rattle.std.specs.String.{string_bytes}
use Rattle.cli_commands.specs.declared.fault.Fault.{Fault}
use Rattle.cli_commands.specs.declared.fault.Fault.TheVariants.{BadLine, BadKeyLine, TooLong, LayoutRefused, RecordRefused, Unwritable, TurnLayoutRefused, OtherGeometry, OtherCount}
use Rattle.cli_commands.specs.declared.output.demo.Demos.TheVariants as demos
use Rattle.cli_commands.specs.declared.status.Status.{Status}
use Rattle.cli_commands.specs.declared.status.Status.TheVariants.{Done, Findings, BadInput, Failed, NoMemory}
use Rattle.cli_commands.specs.Check.{check}
use Rattle.cli_commands.specs.Fault.{fault_line}
use Rattle.cli_commands.specs.Held.{records_held}
use Rattle.cli_commands.specs.Printed.{Printed, printed}
use Rattle.cli_commands.specs.Talk.{talk}
use Rattle.cli_findings.specs.declared.found.Pen.TheVariants as pens
use Rattle.cli_maps.specs.Asked.{as_text}
use Rattle.cli_maps.specs.Printed.{check_source}
use Rattle.cli_reports.specs.declared.talk.TalkForm.TheVariants as forms
use Rattle.cli_reports.specs.Explained.{explained}
use Rattle.cli_reports.specs.TalkReport.{talk_report}
use Rattle.cli_suites.specs.declared.answers.Detail.{Detail}
use Rattle.cli_suites.specs.declared.answers.Detail.TheVariants.{Omitted, Explained}
use Rattle.cli_suites.specs.declared.answers.Inputs as held
use Rattle.cli_suites.specs.declared.answers.ReadError.{ReadError}
use Rattle.cli_suites.specs.declared.answers.ReadError.TheVariants.{Missing, OutOfMemory}
use Rattle.cli_suites.specs.declared.job.Kind.{Kind}
use Rattle.cli_suites.specs.declared.job.Kind.TheVariants as kinds
use Rattle.cli_suites.specs.Job.{Asked}

-- ---- files

-- the bytes of the file at each path, or that it can't be read
abbrev pub Held : Type 0
Held = List ℕ → Option (List ℕ)

-- what was read, or the path of a file that can't be; unless memory ran out
abbrev pub Reads : {A B : Type 0} → (A → B) → Result A ReadError → Result B (List ℕ) → Type 0
Reads view (Ok read) due = due ≡ Ok (view read)
Reads view (Err (Missing path)) due = due ≡ Err (string_bytes path)
Reads view (Err OutOfMemory) due = Unit {0}

-- one step after another, up to the first file that can't be read
infixl 10 ◌>>=◌
abbrev pub ◌>>=◌ : {A B : Type 0} → Result A (List ℕ) → (A → Result B (List ℕ)) → Result B (List ℕ)
(Ok x) >>= f = f x
(Err path) >>= f = Err path

abbrev pub read_one : Held → List ℕ → Result (List ℕ) (List ℕ)
read_one files path = ok_or (files path) path

abbrev pub with_read : Held → List (List ℕ) → List ℕ → Result (List (List ℕ)) (List ℕ)
with_read files before path = read_one files path >>= λ bytes. Ok (before ++ bytes ∷ [])

-- the bytes of each, behind those before
abbrev pub layouts_read : Held → List (List ℕ) → List (List ℕ) → Result (List (List ℕ)) (List ℕ)
layouts_read files before [] = Ok before
layouts_read files before (path ∷ paths) = with_read files before path >>= λ read. layouts_read files read paths

-- the texts of a job's files
pub record Inputs : Type 0 where
  pub layouts : List (List ℕ)
  pub records : List ℕ

abbrev pub inputs_seen : held.Inputs → Inputs
inputs_seen inputs = record { layouts = records_held inputs.layouts.items; records = inputs.records.items }

-- first the layouts, then the records
abbrev pub job_read : Held → Asked → Result Inputs (List ℕ)
job_read files job = do
  layouts ← layouts_read files [] job.layouts
  records ← read_one files job.records
  Ok (record { layouts = layouts; records = records })

-- these are the bytes of the files of paths
abbrev pub AreLayouts : Held → List (List ℕ) → List (List ℕ) → Type 0
AreLayouts files paths layouts = layouts_read files [] paths ≡ Ok layouts

-- the layouts are those of their paths
abbrev pub AreOf : Held → held.Inputs → Type 0
AreOf files inputs = AreLayouts files (map string_bytes inputs.paths.now) (records_held inputs.layouts.items)

-- ---- what the command of a job answers

-- a screen has one layout
abbrev pub check_first : List (List ℕ) → List ℕ → Result Printed Fault
check_first [] records = talk [] records
check_first (layout ∷ layouts) records = check demos.Omitted layout records

abbrev pub explain_first : List (List ℕ) → List ℕ → Result Printed Fault
explain_first [] records = talk [] records
explain_first (layout ∷ layouts) records = explained pens.Ignored layout records

-- SEND MAP adds nothing
abbrev pub check_maps : List ℕ → Result Printed Fault
check_maps source = check_source as_text None (record { free_keyboard = false; reset_modified = false }) source

abbrev pub answer_in : Detail → Kind → List (List ℕ) → List ℕ → Result Printed Fault
answer_in Omitted kinds.Screen layouts records = check_first layouts records
answer_in Explained kinds.Screen layouts records = explain_first layouts records
answer_in Omitted kinds.Dialogue layouts records = talk layouts records
answer_in Explained kinds.Dialogue layouts records = talk_report forms.Explained layouts records
answer_in detail kinds.Map layouts records = check_maps records
answer_in detail kinds.Alone layouts records = check_maps records

-- ---- what is refused, with the path of its file

-- the file that is at fault; which input is too long isn't told
abbrev pub path_of_fault : Asked → Fault → Option (List ℕ)
path_of_fault job TooLong = None
path_of_fault job (LayoutRefused fault) = slice_get job.layouts 0
path_of_fault job (TurnLayoutRefused turn fault) = slice_get job.layouts turn
path_of_fault job (OtherGeometry turn) = slice_get job.layouts turn
path_of_fault job (BadLine number) = Some job.records
path_of_fault job (BadKeyLine number) = Some job.records
path_of_fault job (RecordRefused index refused) = Some job.records
path_of_fault job (Unwritable index flaw) = Some job.records
path_of_fault job (OtherCount turns layouts) = Some job.records

abbrev pub at_path : List ℕ → List ℕ → List ℕ
at_path path line = path ++ (codes ": " ++ line)

abbrev pub front_of : Option (List ℕ) → List ℕ → List ℕ
front_of None line = line
front_of (Some path) line = at_path path line

abbrev pub fault_answer : Asked → Fault → Printed
fault_answer job fault = printed (front_of (path_of_fault job fault) (fault_line fault)) BadInput

-- a source of maps that is refused is an answer
abbrev pub answer_by : Asked → Status → Printed → Printed
answer_by job BadInput answer = printed (at_path job.records answer.text) BadInput
answer_by job Done answer = answer
answer_by job Findings answer = answer
answer_by job Failed answer = answer
answer_by job NoMemory answer = answer

abbrev pub told_answer : Asked → Printed → Printed
told_answer job answer = answer_by job answer.status answer

abbrev pub told : Asked → Result Printed Fault → Printed
told job (Ok answer) = told_answer job answer
told job (Err fault) = fault_answer job fault

abbrev pub answer_of : Detail → Asked → Inputs → Printed
answer_of detail job inputs = told job (answer_in detail job.kind inputs.layouts inputs.records)

abbrev pub missing : List ℕ → Printed
missing path = printed (path ++ codes ": cannot be read\n") BadInput

abbrev pub path_or_none : Option (List ℕ) → List ℕ
path_or_none None = []
path_or_none (Some path) = path

abbrev pub alone : Asked → Printed
alone job = printed (job.records ++ (codes ": no " ++ (path_or_none (slice_get job.layouts 0) ++ codes " beside it\n"))) BadInput
