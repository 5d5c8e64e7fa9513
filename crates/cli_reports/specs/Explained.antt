-- What `check --explain` prints, as a function of its two inputs, and its status.
use Rattle.std.specs.Prelude.{ℕ, List, [], ◌∷◌, codes, Option, Result, Ok}
use Rattle.std.specs.List.{flat_map}
use Rattle.ds_codec.specs.Reading.{◌>>=◌}
use Rattle.ds_screen.specs.Picture.{Picture}
use Rattle.scr_layout.specs.Layout.{Declaration}
use Rattle.scr_check.specs.declared.traced.Traced.{Traced}
use Rattle.cli_commands.specs.declared.fault.Fault.{Fault}
use Rattle.cli_commands.specs.declared.input.sizes.SizeLine.TheVariants.{Refused}
use Rattle.cli_commands.specs.declared.output.demo.Demos.TheVariants.{Printed as Pressed}
use Rattle.cli_commands.specs.declared.status.Status.TheVariants.{Done, Findings}
use Rattle.cli_commands.specs.DemoLines.{asked, shown_on}
use Rattle.cli_commands.specs.LayoutText.{layout_in}
use Rattle.cli_commands.specs.Printed.{Printed, printed, printed_or_fault}
use Rattle.cli_commands.specs.Records.{records_in}
use Rattle.cli_findings.specs.declared.found.Pen.{Pen}
use Rattle.cli_findings.specs.Lines.{found_in}
use Rattle.cli_reports.specs.Explain.{explained_lines}

-- `yes`, or the findings of records that leave this picture, explained
abbrev pub explained_findings : Declaration → Option Picture → List Traced → Printed
explained_findings layout opened [] = printed (codes "yes\n") Done
explained_findings layout opened (finding ∷ findings) = printed (flat_map (explained_lines layout opened) (finding ∷ findings)) Findings

-- the findings of `check`, each with the orders that it comes from
abbrev pub explained_told : Pen → Declaration → List (List ℕ) → Printed
explained_told pen layout records = explained_findings layout (asked Pressed (shown_on layout records)) (found_in pen layout records)

abbrev pub explained_records : Pen → Declaration → List ℕ → Result Printed Fault
explained_records pen layout input = records_in Refused input >>= λ told. Ok (explained_told pen layout told.records)

-- the faults are those of `check`, in its order
abbrev pub explained : Pen → List ℕ → List ℕ → Result Printed Fault
explained pen text input = layout_in text >>= λ layout. explained_records pen layout input

abbrev pub printed_explained : Pen → List ℕ → List ℕ → Printed
printed_explained pen text input = printed_or_fault (explained pen text input)
