-- The layout that an input says.
use Rattle.std.specs.Prelude.{ℕ, List, Result, Ok, Err, if◌then◌else◌}
use Rattle.std.specs.Str.{is_utf8}
use Rattle.ds_codec.specs.Reading.{◌>>=◌}
use Rattle.scr_layout.specs.declared.fault.LayoutFault.{LayoutFault}
use Rattle.scr_layout.specs.Fault.{not_toml}
use Rattle.scr_layout.specs.Layout.{Declaration, layout_of}
use Rattle.cli_commands.specs.declared.fault.Fault.{Fault}
use Rattle.cli_commands.specs.declared.fault.Fault.TheVariants.{LayoutRefused}
use Rattle.cli_commands.specs.Lines.{within_limit}

-- bytes that are no text are no TOML
abbrev pub layout_said : List ℕ → Result Declaration LayoutFault
layout_said bytes = if is_utf8 bytes then layout_of bytes else Err not_toml

abbrev pub layout_or_fault : Result Declaration LayoutFault → Result Declaration Fault
layout_or_fault (Ok layout) = Ok layout
layout_or_fault (Err fault) = Err (LayoutRefused fault)

-- the layout, or its first fault
abbrev pub layout_in : List ℕ → Result Declaration Fault
layout_in input = within_limit input >>= λ text. layout_or_fault (layout_said text)
