-- The layout of a text, for a device.
use Rattle.std.specs.Prelude.{ℕ, List, codes, Result, Ok, Err, if◌then◌else◌}
use Rattle.ds_codec.specs.Geometry.{Sizes}
use Rattle.scr_layout.specs.Layout.{Declaration}
use Rattle.cli_commands.specs.declared.fault.Fault.{Fault}
use Rattle.cli_commands.specs.Fault.{fault_text}
use Rattle.cli_commands.specs.LayoutText.{layout_in}
use Rattle.ds_codec.specs.Same.{same_sizes}
use Rattle.script_checks.specs.declared.read.LayoutRefusal.{LayoutRefusal}
use Rattle.script_checks.specs.declared.read.LayoutRefusal.TheVariants.{Refused, OtherSizes}

abbrev pub refusal_text : LayoutRefusal → List ℕ
refusal_text (Refused fault) = fault_text fault
refusal_text OtherSizes = codes "no device of these sizes"

-- a layout whose sizes are the device's
abbrev pub fitting : Sizes → Declaration → Result Declaration LayoutRefusal
fitting geometry layout = if same_sizes layout.geometry geometry then Ok layout else Err OtherSizes

abbrev pub fitting_said : Sizes → Result Declaration Fault → Result Declaration LayoutRefusal
fitting_said geometry (Ok layout) = fitting geometry layout
fitting_said geometry (Err fault) = Err (Refused fault)

-- the layout that a text says as `check` reads it, where the device has its sizes
abbrev pub layout_for : Sizes → List ℕ → Result Declaration LayoutRefusal
layout_for geometry text = fitting_said geometry (layout_in text)
