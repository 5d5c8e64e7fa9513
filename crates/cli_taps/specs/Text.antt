-- What is told of a session, by what `records` prints of it.
use Rattle.std.specs.Prelude.{ℕ, nat_eq, Bool, List, [], ◌++◌, codes, if◌then◌else◌}
use Rattle.std.specs.List.{flat_map, starts_with}
use Rattle.cli_commands.specs.Lines.{lines_in}

-- a line that tells a fault of the session
abbrev pub tells_fault : List ℕ → Bool
tells_fault line = starts_with nat_eq line (codes "line ")

abbrev pub is_comment : List ℕ → Bool
is_comment line = starts_with nat_eq line (codes "#")

-- Of the host's side all is told, and a fault as a comment: other commands read the lines.
abbrev pub host_line : List ℕ → List ℕ
host_line line = if tells_fault line then codes "# " ++ (line ++ codes "\n") else line ++ codes "\n"

abbrev pub host_lines : List ℕ → List ℕ
host_lines text = flat_map host_line (lines_in text)

-- Of the terminal's side its records are told, as comments, and a fault.
abbrev pub answer_line : List ℕ → List ℕ
answer_line line =
    if is_comment line then [] else (if tells_fault line then codes "# " ++ (line ++ codes "\n") else codes "# answer " ++ (line ++ codes "\n"))

abbrev pub answer_lines : List ℕ → List ℕ
answer_lines text = flat_map answer_line (lines_in text)
