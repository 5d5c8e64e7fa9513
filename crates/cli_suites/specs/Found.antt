-- What is found of a job as results of a log of SARIF, each at its place in the job's files.
use Rattle.std.specs.Prelude.{ℕ, Bool, false, not, nat_eq, codes, List, [], ◌∷◌, ◌++◌, map, Option, Some, None, unwrap_or, slice_get, Result, Ok, Err, if◌then◌else◌}
use Rattle.std.specs.List.{filter, starts_with}
use Rattle.serde_json.specs.Data.{Data}
use Rattle.ds_codec.specs.Reading.{◌>>=◌}
use Rattle.scr_layout.specs.declared.fault.LayoutFault.{LayoutFault}
use Rattle.scr_layout.specs.Layout.{Declaration}
use Rattle.scr_check.specs.declared.traced.Traced.{Traced}
use Rattle.scr_check.specs.FindingText.{finding_text}
use Rattle.cli_commands.specs.declared.fault.Fault.{Fault}
use Rattle.cli_commands.specs.declared.fault.Fault.TheVariants.{LayoutRefused, TurnLayoutRefused}
use Rattle.cli_commands.specs.declared.input.sizes.SizeLine.TheVariants as sizes
use Rattle.cli_commands.specs.declared.status.Status.{Status}
use Rattle.cli_commands.specs.declared.status.Status.TheVariants.{Done, Findings, BadInput, Failed, NoMemory}
use Rattle.cli_commands.specs.Fault.{fault_text}
use Rattle.cli_commands.specs.LayoutText.{layout_in}
use Rattle.cli_commands.specs.Lines.{lines_in, within_limit}
use Rattle.cli_commands.specs.Printed.{Printed}
use Rattle.cli_commands.specs.Records.{records_in}
use Rattle.cli_findings.specs.declared.found.Pen.TheVariants.{Ignored}
use Rattle.cli_findings.specs.Lines.{found_in}
use Rattle.cli_findings.specs.Region.{line_in, line_of_fault}
use Rattle.cli_findings.specs.Results.{found_results, named_result, refused_result}
use Rattle.cli_maps.specs.Results.{map_results}
use Rattle.cli_reports.specs.TalkResults.{talk_results}
use Rattle.cli_suites.specs.declared.job.Kind.{Kind}
use Rattle.cli_suites.specs.declared.job.Kind.TheVariants.{Screen, Dialogue, Map, Alone}
use Rattle.cli_suites.specs.Answers.{Inputs, path_of_fault, path_or_none}
use Rattle.cli_suites.specs.Job.{Asked, Known}
use Rattle.cli_suites.specs.Manifest.{has_known}
use Rattle.cli_suites.specs.Rule.{rule_id, rule_index}
use Rattle.cli_suites.specs.Settled.{stale_from, text_lines}

-- a path from where the program was started, of one from a folder
abbrev pub placed : List ℕ → List ℕ → List ℕ
placed base path = if starts_with nat_eq path (codes "/") then path else base ++ path

-- ---- the findings of a screen

-- its line is that of a finding that is accepted of the screen
abbrev pub is_accepted_of : List ℕ → List Known → Declaration → Traced → Bool
is_accepted_of name accepted layout traced = has_known name (finding_text layout.entries traced.finding) accepted

abbrev pub unaccepted : List ℕ → List Known → Declaration → List Traced → List Traced
unaccepted name accepted layout found = filter (λ traced. not (is_accepted_of name accepted layout traced)) found

abbrev pub screen_told : List ℕ → List Known → List ℕ → Declaration → List ℕ → Result (List Data) Fault
screen_told name accepted path layout text =
    records_in sizes.Refused text >>= λ told. Ok (found_results [] path layout text (unaccepted name accepted layout (found_in Ignored layout told.records)))

abbrev pub screen_records : List ℕ → List Known → List ℕ → List ℕ → Declaration → Result (List Data) Fault
screen_records name accepted path input layout = within_limit input >>= screen_told name accepted path layout

abbrev pub screen_results : List ℕ → List Known → List ℕ → List ℕ → List ℕ → Result (List Data) Fault
screen_results name accepted path text input = layout_in text >>= screen_records name accepted path input

-- a screen has one layout
abbrev pub first_results : List ℕ → List Known → List ℕ → List (List ℕ) → List ℕ → Result (List Data) Fault
first_results name accepted path [] input = talk_results path [] input
first_results name accepted path (layout ∷ layouts) input = screen_results name accepted path layout input

-- SEND MAP adds nothing
abbrev pub source_results : List ℕ → List ℕ → Result (List Data) Fault
source_results path source = map_results path None (record { free_keyboard = false; reset_modified = false }) source

abbrev pub results_in : Kind → List ℕ → List Known → List ℕ → List (List ℕ) → List ℕ → Result (List Data) Fault
results_in Screen name accepted path layouts records = first_results name accepted path layouts records
results_in Dialogue name accepted path layouts records = talk_results path layouts records
results_in Map name accepted path layouts records = source_results path records
results_in Alone name accepted path layouts records = source_results path records

-- ---- what is refused

abbrev pub layout_line : Option (List ℕ) → LayoutFault → ℕ
layout_line None fault = 1
layout_line (Some text) fault = line_in (within_limit text) (LayoutRefused fault)

-- the line of the file that is at fault
abbrev pub fault_place : List (List ℕ) → Fault → ℕ
fault_place texts (LayoutRefused fault) = layout_line (slice_get texts 0) fault
fault_place texts (TurnLayoutRefused turn fault) = layout_line (slice_get texts turn) fault
fault_place texts fault = line_of_fault fault

-- of an input that is too long the records are named
abbrev pub path_at_fault : Asked → Fault → List ℕ
path_at_fault job fault = unwrap_or (path_of_fault job fault) job.records

abbrev pub fault_results : List ℕ → Asked → List (List ℕ) → Fault → List Data
fault_results base job texts fault = refused_result (placed base (path_at_fault job fault)) (fault_place texts fault) (fault_text fault) ∷ []

abbrev pub or_fault : List ℕ → Asked → List (List ℕ) → Result (List Data) Fault → List Data
or_fault base job texts (Ok results) = results
or_fault base job texts (Err fault) = fault_results base job texts fault

abbrev pub input_results : List ℕ → List Known → Asked → Inputs → List Data
input_results base accepted job inputs =
    or_fault base job inputs.layouts (results_in job.kind job.name accepted (placed base job.records) inputs.layouts inputs.records)

-- ---- what is accepted and doesn't come

abbrev pub stale_result : List ℕ → List ℕ → Data
stale_result path line = named_result rule_id rule_index path (record { line = 1; columns = None }) line

-- by what the command of a screen answers
abbrev pub stale_by : List ℕ → List Known → Status → List ℕ → List (List ℕ)
stale_by name accepted Done text = stale_from name [] accepted
stale_by name accepted Findings text = stale_from name (text_lines (lines_in text)) accepted
stale_by name accepted BadInput text = []
stale_by name accepted Failed text = []
stale_by name accepted NoMemory text = []

abbrev pub stale_results : List ℕ → List Known → Asked → Printed → List Data
stale_results base accepted job answer = map (stale_result (placed base job.records)) (stale_by job.name accepted answer.status answer.text)

-- ---- the results of a job

-- of what is answered yes there is none
abbrev pub unless_yes : Status → List Data → List Data
unless_yes Done results = []
unless_yes Findings results = results
unless_yes BadInput results = results
unless_yes Failed results = results
unless_yes NoMemory results = results

-- the findings that aren't accepted, or what is refused, and then what is accepted and doesn't come
abbrev pub answered_results : List ℕ → List Known → Asked → Inputs → Printed → List Data
answered_results base accepted job inputs answer = unless_yes answer.status (input_results base accepted job inputs) ++ stale_results base accepted job answer

abbrev pub missing_results : List ℕ → List ℕ → List Data
missing_results base path = refused_result (placed base path) 1 (codes "cannot be read") ∷ []

abbrev pub alone_words : Asked → List ℕ
alone_words job = codes "no " ++ (path_or_none (slice_get job.layouts 0) ++ codes " beside it")

abbrev pub alone_results : List ℕ → Asked → List Data
alone_results base job = refused_result (placed base job.records) 1 (alone_words job) ∷ []
