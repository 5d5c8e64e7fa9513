-- The text of a session, in which each screen is judged where the terminal answers it.
use Rattle.std.specs.Prelude.{ℕ, ◌==◌, Bool, List, [], ◌∷◌, ◌++◌, codes, Option, if◌then◌else◌}
use Rattle.script_checks.specs.Named.{Named}
use Rattle.tap_screens.specs.Judged.{judged_text}
use Rattle.tap_screens.specs.Lines.{Line, shows, answers, sizes, nothing, line_told}
use Rattle.tap_screens.specs.Made.{Made, ends_turn, made_after, nothing_made, turns_of}
use Rattle.tap_screens.specs.Sketch.{Leaf, leaves_of}

-- the layouts, if screens are judged; whether screens are left; what is known of the screen; and the line that is open
pub record Watching : Type 0 where
  pub layouts : Option (List Named)
  pub leaves : Bool
  pub made : Made
  pub line : List ℕ

abbrev pub watching_first : Option (List Named) → Bool → Watching
watching_first layouts leaves = record { layouts = layouts; leaves = leaves; made = nothing_made; line = [] }

-- ---- a line

abbrev pub text_due : Option (List Named) → Made → Line → List ℕ
text_due layouts made (answers bytes) =
    if ends_turn made.stage bytes then judged_text layouts made.geometry (turns_of made.keeping) bytes else []
text_due layouts made line = []

abbrev pub leaves_due : Bool → Made → Line → List Leaf
leaves_due leaves made (answers bytes) =
    if leaves then (if ends_turn made.stage bytes then leaves_of made.geometry (turns_of made.keeping) else []) else []
leaves_due leaves made line = []

-- ---- a byte: a line is printed once it is whole, and then what is said of its screen

abbrev pub byte_text : Watching → ℕ → List ℕ
byte_text watching byte =
    if byte == 0x0A then watching.line ++ (codes "\n" ++ text_due watching.layouts watching.made (line_told watching.line)) else []

abbrev pub byte_leaves : Watching → ℕ → List Leaf
byte_leaves watching byte = if byte == 0x0A then leaves_due watching.leaves watching.made (line_told watching.line) else []

abbrev pub byte_after : Watching → ℕ → Watching
byte_after watching byte =
    if byte == 0x0A then record watching { made = made_after watching.made (line_told watching.line); line = [] }
    else record watching { line = watching.line ++ byte ∷ [] }

-- ---- bytes in turn

-- what is printed of a session of this text
abbrev pub watched_text : Watching → List ℕ → List ℕ
watched_text watching [] = []
watched_text watching (byte ∷ bytes) = byte_text watching byte ++ watched_text (byte_after watching byte) bytes

-- the screens that are left of it
abbrev pub watched_leaves : Watching → List ℕ → List Leaf
watched_leaves watching [] = []
watched_leaves watching (byte ∷ bytes) = byte_leaves watching byte ++ watched_leaves (byte_after watching byte) bytes

abbrev pub watching_after : Watching → List ℕ → Watching
watching_after watching [] = watching
watching_after watching (byte ∷ bytes) = watching_after (byte_after watching byte) bytes
