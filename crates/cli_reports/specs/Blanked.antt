-- The text of a dialogue as one of records: what is no record of it is a comment.
use Rattle.std.specs.Prelude.{ℕ, ◌==◌, List, [], ◌∷◌, ◌++◌, codes, if◌then◌else◌}
use Rattle.cli_commands.specs.Lines.{lines_in}
use Rattle.cli_commands.specs.TurnLines.{is_turn, left_after}
use Rattle.cli_reports.specs.declared.blanked.Kept.{Kept}
use Rattle.cli_reports.specs.declared.blanked.Kept.TheVariants.{All, Own}

-- a line of a turn that is kept, where so many turns before it aren't
abbrev pub kept_line : Kept → ℕ → List ℕ → List ℕ
kept_line All left line = line
kept_line Own left line = if left == 0 then line else codes "#"

abbrev pub line_shown : Kept → ℕ → List ℕ → List ℕ
line_shown kept left line = if is_turn line then codes "#" else kept_line kept left line

abbrev pub shown_from : Kept → ℕ → List (List ℕ) → List ℕ
shown_from kept left [] = []
shown_from kept left (line ∷ lines) = (line_shown kept left line ++ codes "\n") ++ shown_from kept (left_after left line) lines

-- the text of a dialogue of which this turn is told
abbrev pub turn_text : Kept → ℕ → List ℕ → List ℕ
turn_text kept turn text = shown_from kept turn (lines_in text)
