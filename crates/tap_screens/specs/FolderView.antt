-- A folder, drafts and the screens that are left as the program holds them.
use Rattle.std.specs.Prelude.{List, Option, option_map, string_bytes}
use Rattle.std.specs.Borrow.{Bor}
use Rattle.script_checks.specs.Named.{Named}
use Rattle.tap_screens.specs.declared.leaf.LeftScreen.{LeftScreen}
use Rattle.tap_screens.specs.declared.sketch.Sketch as held
use Rattle.tap_screens.specs.declared.sketch.Sketch.TheVariants as sketch
use Rattle.tap_screens.specs.Sketch.{Leaf, Sketch, layout, flaw}

abbrev pub sketch_seen : held.Sketch → Sketch
sketch_seen (sketch.Layout text) = layout (string_bytes text)
sketch_seen (sketch.Flaw line) = flaw (string_bytes line)

abbrev pub leaf_seen : LeftScreen → Leaf
leaf_seen leaf = record { records = string_bytes leaf.records; layout = string_bytes leaf.layout }

abbrev pub folder_seen : Option (Bor (List Named)) → Option (List Named)
folder_seen folder = option_map (λ all. all.now) folder
