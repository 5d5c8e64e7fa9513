-- The lines of a dialogue on which its records stand.
use Rattle.std.specs.Prelude.{ℕ, Bool, not, ◌&&◌, List}
use Rattle.cli_commands.specs.Lines.{lines_in}
use Rattle.cli_commands.specs.Says.{is_silent}
use Rattle.cli_commands.specs.TurnLines.{is_turn}
use Rattle.cli_findings.specs.RecordLine.{numbers_of}

-- a line that is not ignored, and doesn't stand between two turns
abbrev pub tells_record : List ℕ → Bool
tells_record line = not (is_silent line) && not (is_turn line)

-- the lines on which the records of all turns stand, in turn, counted from 1
abbrev pub telling_from : ℕ → List (List ℕ) → List ℕ
telling_from number lines = numbers_of tells_record number lines

abbrev pub turn_numbers : List ℕ → List ℕ
turn_numbers text = telling_from 1 (lines_in text)
