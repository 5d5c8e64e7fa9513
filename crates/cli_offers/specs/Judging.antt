-- What stands against an application.
use Rattle.std.specs.Prelude.{ℕ, List, [], ◌∷◌, ◌++◌, length, ◌==◌, map, codes, Option, Some, None, slice_get, Result, Ok, Err, if◌then◌else◌}
use Rattle.std.specs.List.{flat_map}
use Rattle.cli_commands.specs.declared.fault.Fault.{Fault}
use Rattle.cli_commands.specs.declared.output.demo.Demos.TheVariants.{Omitted}
use Rattle.cli_commands.specs.declared.status.Status.{Status}
use Rattle.cli_commands.specs.declared.status.Status.TheVariants.{Done}
use Rattle.cli_commands.specs.Check.{check}
use Rattle.cli_commands.specs.Fault.{fault_line}
use Rattle.cli_commands.specs.Printed.{Printed}
use Rattle.cli_commands.specs.Talk.{talk}
use Rattle.cli_applications.specs.Manifest.{Planned}
use Rattle.cli_offers.specs.Sources.{Files, files_at}
use Rattle.cli_offers.specs.Ways.{Way}

abbrev pub bytes_or : Option (List ℕ) → List ℕ
bytes_or None = []
bytes_or (Some bytes) = bytes

abbrev pub layout_text : List Files → ℕ → List ℕ
layout_text files n = bytes_or (files_at files n).layout

abbrev pub records_text : List Files → ℕ → List ℕ
records_text files n = bytes_or (files_at files n).records

abbrev pub turn_line : List ℕ
turn_line = codes "\nturn\n"

-- ---- one way: what `check` says of a screen, and `talk` of more

abbrev pub way_layouts : List Files → Way → List (List ℕ)
way_layouts files way = layout_text files way.first ∷ map (layout_text files) way.others

abbrev pub turn_of : List Files → ℕ → List ℕ
turn_of files n = turn_line ++ records_text files n

-- the records of each, with a line 'turn' between them
abbrev pub turns_text : List Files → Way → List ℕ
turns_text files way = records_text files way.first ++ flat_map (turn_of files) way.others

abbrev pub talk_of : List Files → Way → Result Printed Fault
talk_of files way = talk (way_layouts files way) (turns_text files way)

abbrev pub answer_of : List Files → Way → Result Printed Fault
answer_of files way =
    if length way.others == 0 then check Omitted (layout_text files way.first) (records_text files way.first) else talk_of files way

abbrev pub name_in : Option Planned → List ℕ
name_in None = []
name_in (Some plan) = plan.name

abbrev pub name_at : List Planned → ℕ → List ℕ
name_at plans n = name_in (slice_get plans n)

abbrev pub then_name : List ℕ → List ℕ
then_name name = codes " then " ++ name

-- the screens of the way
abbrev pub way_names : List Planned → Way → List ℕ
way_names plans way = name_at plans way.first ++ flat_map (λ n. then_name (name_at plans n)) way.others

abbrev pub way_line : List Planned → Way → List ℕ
way_line plans way = codes "screen " ++ (way_names plans way ++ codes "\n")

-- nothing of a yes
abbrev pub lines_by : List ℕ → Status → List ℕ → List ℕ
lines_by line Done text = []
lines_by line status text = line ++ text

abbrev pub lines_told : List ℕ → Result Printed Fault → List ℕ
lines_told line (Ok answer) = lines_by line answer.status answer.text
lines_told line (Err fault) = line ++ fault_line fault

abbrev pub way_lines : List Planned → List Files → Way → List ℕ
way_lines plans files way = lines_told (way_line plans way) (answer_of files way)

abbrev pub ways_text : List Planned → List Files → List Way → List ℕ
ways_text plans files ways = flat_map (way_lines plans files) ways
