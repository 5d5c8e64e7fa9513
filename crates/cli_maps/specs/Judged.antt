-- What is found of a map: overlaps and ends outside it, and what stands against its record and its layout.
use Rattle.std.specs.Prelude.{ℕ, ◌*◌, List, [], ◌∷◌, ◌++◌, map, Result, Ok, Err}
use Rattle.ds_codec.specs.Reading.{◌>>=◌}
use Rattle.ds_codec.specs.declared.size.Mode.TheVariants.{Bits14}
use Rattle.ds_codec.specs.declared.write.Unwritable.{Unwritable}
use Rattle.scr_layout.specs.Layout.{Declaration}
use Rattle.scr_check.specs.Findings.{answer_of}
use Rattle.order_lines.specs.Draft.{written_of}
use Rattle.bms_map.specs.Maps.{Sheet}
use Rattle.bms_map.specs.declared.record.Control.{Control}
use Rattle.bms_map.specs.LayoutText.{layout_text}
use Rattle.bms_map.specs.Overlaps.{overlaps_of}
use Rattle.bms_map.specs.Record.{command_of, map_orders}
use Rattle.cli_commands.specs.declared.fault.Fault.{Fault}
use Rattle.cli_commands.specs.declared.fault.Fault.TheVariants as faults
use Rattle.cli_commands.specs.declared.status.Status.{Status}
use Rattle.cli_commands.specs.declared.status.Status.TheVariants.{Done, Findings}
use Rattle.cli_commands.specs.LayoutText.{layout_in}
use Rattle.cli_maps.specs.declared.judged.MapFinding.{MapFinding}
use Rattle.cli_maps.specs.declared.judged.MapFinding.TheVariants.{Overlapping, Found}

abbrev pub written_or_fault : Result (List ℕ) Unwritable → Result (List ℕ) Fault
written_or_fault (Ok bytes) = Ok bytes
written_or_fault (Err flaw) = Err (faults.Unwritable 0 flaw)

-- the bytes of a map's record
abbrev pub record_due : Control → Sheet → Result (List ℕ) Fault
record_due control it =
    written_or_fault (written_of Bits14 (it.area.screen.rows * it.area.screen.cols) (record { command = command_of it control; orders = map_orders it }))

-- a layout, its records, and what is found
pub record Judged : Type 0 where
  pub layout : Declaration
  pub records : List (List ℕ)
  pub findings : List MapFinding

-- first what no record shows, then what `check` finds
abbrev pub all_found : Sheet → Declaration → List (List ℕ) → List MapFinding
all_found it layout records = map (λ overlap. Overlapping overlap) (overlaps_of it) ++ map (λ finding. Found finding) (answer_of layout records)

abbrev pub judged : Sheet → Declaration → List (List ℕ) → Judged
judged it layout records = record { layout = layout; records = records; findings = all_found it layout records }

-- a layout and a map's record, judged
abbrev pub judge_with : Control → Sheet → Declaration → Result Judged Fault
judge_with control it layout = record_due control it >>= λ bytes. Ok (judged it layout (bytes ∷ []))

-- a map, by its own layout
abbrev pub judge : Control → Sheet → Result Judged Fault
judge control it = layout_in (layout_text it) >>= judge_with control it

abbrev pub status_of : List MapFinding → Status
status_of [] = Done
status_of (finding ∷ findings) = Findings
