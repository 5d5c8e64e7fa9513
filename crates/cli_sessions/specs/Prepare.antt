-- Whether a layout and records can be served, and what is printed where they can't.
use Rattle.std.specs.Prelude.{ℕ, Bool, true, false, ◌||◌, List, [], ◌∷◌, codes, Result, Ok}
use Rattle.ds_codec.specs.Geometry.{Sizes}
use Rattle.ds_codec.specs.Reading.{◌>>=◌}
use Rattle.scr_layout.specs.Layout.{Declaration}
use Rattle.scr_check.specs.declared.finding.Finding.{Finding}
use Rattle.scr_check.specs.Findings.{answer_of}
use Rattle.cli_commands.specs.declared.fault.Fault.{Fault}
use Rattle.cli_commands.specs.declared.input.sizes.SizeLine.TheVariants.{Refused}
use Rattle.cli_commands.specs.declared.output.demo.Demos.TheVariants.{Omitted}
use Rattle.cli_commands.specs.declared.status.Status.TheVariants.{BadInput}
use Rattle.cli_commands.specs.Check.{printed_answer}
use Rattle.cli_commands.specs.LayoutText.{layout_in}
use Rattle.cli_commands.specs.Printed.{Printed, printed}
use Rattle.cli_commands.specs.Records.{records_in}
use Rattle.tn_cores.specs.declared.device.ScreenModel.TheVariants.{Two, Three, Four, Five}
use Rattle.tn_cores.specs.Devices.{fits}

-- a screen that can be served, or what is printed in its place
pub data Prepared : Type 0 where
  ready : (layout : Declaration) → (records : List (List ℕ)) → Prepared
  stops : (answer : Printed) → Prepared

-- some model has both sizes
abbrev pub has_model : Sizes → Bool
has_model sizes = fits sizes Two || (fits sizes Three || (fits sizes Four || fits sizes Five))

abbrev pub no_model : Prepared
no_model = stops (printed (codes "no model has these sizes\n") BadInput)

abbrev pub with_model : Declaration → List (List ℕ) → Bool → Prepared
with_model layout records false = no_model
with_model layout records true = ready layout records

-- findings come before the sizes
abbrev pub prepared_by : Declaration → List (List ℕ) → List Finding → Prepared
prepared_by layout records [] = with_model layout records (has_model layout.geometry)
prepared_by layout records (finding ∷ findings) = stops (printed_answer Omitted layout records)

abbrev pub prepared : Declaration → List (List ℕ) → Prepared
prepared layout records = prepared_by layout records (answer_of layout records)

-- what a layout's text and records lead to, or their first fault
abbrev pub prepare : List ℕ → List ℕ → Result Prepared Fault
prepare text records = do
  layout ← layout_in text
  told ← records_in Refused records
  Ok (prepared layout told.records)
