-- What all reports have: the findings with the orders that they come from, a JSON value as a line, and a status.
use Rattle.std.specs.Prelude.{ℕ, List, [], ◌∷◌, ◌++◌, codes, map}
use Rattle.serde_json.specs.Data.{Data}
use Rattle.serde_json.specs.Written.{compact_text}
use Rattle.scr_layout.specs.Layout.{Declaration}
use Rattle.scr_check.specs.declared.traced.Traced.{Traced}
use Rattle.scr_check.specs.declared.finding.Finding.{Finding}
use Rattle.scr_check.specs.Findings.{answer_of}
use Rattle.scr_check.specs.Pen.{answer_with_pen}
use Rattle.scr_check.specs.Traced.{traced_of}
use Rattle.cli_commands.specs.declared.status.Status.{Status}
use Rattle.cli_commands.specs.declared.status.Status.TheVariants.{Done, Findings}
use Rattle.cli_findings.specs.declared.found.Pen.{Pen}
use Rattle.cli_findings.specs.declared.found.Pen.TheVariants.{Ignored, Asked}

-- all that is told of records and a layout, with the fields that may not be selected where the pen is asked for
abbrev pub answer_for : Pen → Declaration → List (List ℕ) → List Finding
answer_for Ignored layout records = answer_of layout records
answer_for Asked layout records = answer_with_pen layout records

-- what is found of records, each with the orders that it comes from
abbrev pub found_in : Pen → Declaration → List (List ℕ) → List Traced
found_in pen layout records = map (traced_of layout records) (answer_for pen layout records)

-- a JSON value on a line of its own
abbrev pub data_line : Data → List ℕ
data_line value = compact_text value ++ codes "\n"

abbrev pub status_of : List Traced → Status
status_of [] = Done
status_of (finding ∷ findings) = Findings
