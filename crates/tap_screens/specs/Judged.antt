-- What is printed of a screen at the moment at which the terminal answers it.
use Rattle.std.specs.Prelude.{ℕ, List, [], ◌∷◌, ◌++◌, codes, Option, Some, None, Result, Ok, Err}
use Rattle.ds_codec.specs.Geometry.{Sizes}
use Rattle.ds_screen.specs.Picture.{Picture}
use Rattle.cli_commands.specs.declared.fault.Fault.{Fault}
use Rattle.cli_commands.specs.Shown.{shown_on}
use Rattle.tn_session.specs.Kept.{Kept}
use Rattle.script_checks.specs.declared.told.Verdict.{Verdict}
use Rattle.script_checks.specs.declared.told.Verdict.TheVariants.{NoLayout, NotKept, Yes, No}
use Rattle.script_checks.specs.Named.{Named, chosen}
use Rattle.script_checks.specs.Told.{Told, kept_told}
use Rattle.tap_screens.specs.Bound.{bound_text, screen_front}
use Rattle.tap_screens.specs.Sketch.{Sketch, bytes_kept, sketch_line, sketch_of}
use Rattle.tap_screens.specs.Text.{line_after, lines_after}

-- `yes`, or the findings
abbrev pub said_of : Verdict → List (List ℕ) → List (List ℕ)
said_of NoLayout lines = []
said_of NotKept lines = []
said_of Yes lines = codes "yes" ∷ []
said_of No lines = lines

abbrev pub verdict_text : Told → List ℕ
verdict_text told = lines_after (screen_front told.name) (said_of told.verdict told.lines)

-- no layout fits: what would be one
abbrev pub unknown_text : List ℕ → List ℕ
unknown_text line = codes "# screen unknown\n" ++ line_after (codes "# ") line

-- The screen is judged by the layout that it is taken for, and then the answer is bound by it.
abbrev pub by_layout : Sizes → List Kept → List ℕ → Option Named → List ℕ
by_layout geometry kept answer None = unknown_text (sketch_line (sketch_of geometry (bytes_kept kept)))
by_layout geometry kept answer (Some one) = verdict_text (kept_told one (Some kept)) ++ bound_text one answer

-- records of which one is refused leave no screen that a layout could be sought for
abbrev pub by_screen : List Named → Sizes → List Kept → List ℕ → Result Picture Fault → List ℕ
by_screen all geometry kept answer (Ok v) = by_layout geometry kept answer (chosen v all)
by_screen all geometry kept answer (Err fault) = by_layout geometry kept answer None

abbrev pub by_turns : List Named → Sizes → Option (List Kept) → List ℕ → List ℕ
by_turns all geometry None answer = unknown_text (codes "input too long")
by_turns all geometry (Some kept) answer = by_screen all geometry kept answer (shown_on geometry (bytes_kept kept))

-- without layouts nothing is said of a screen
abbrev pub judged_text : Option (List Named) → Sizes → Option (List Kept) → List ℕ → List ℕ
judged_text None geometry turns answer = []
judged_text (Some all) geometry turns answer = by_turns all geometry turns answer
