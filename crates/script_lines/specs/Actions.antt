-- The action at the front of a line.
use Rattle.std.specs.Prelude.{ℕ, ◌+◌, ◌-◌, ◌==◌, ◌||◌, List, [], ◌∷◌, length, take, drop, if◌then◌else◌}
use Rattle.std.specs.List.{prefix_len}
use Rattle.script_lines.specs.declared.fault.SyntaxFault.{SyntaxFault}
use Rattle.script_lines.specs.declared.fault.SyntaxWhy.{SyntaxWhy}
use Rattle.script_lines.specs.declared.fault.SyntaxWhy.TheVariants.{NoName, BadName}
use Rattle.script_lines.specs.Bytes.{is_blank, after_blanks, is_letter_or_digit, is_of_name}
use Rattle.script_lines.specs.Arguments.{Arguments, given, stopped, between_parentheses, words_to_the_end}

-- nothing more, a fault of syntax, or an action and what comes after it
pub data Read : Type 0 where
  ends : Read
  fault : (why : SyntaxFault) → Read
  action : (name : List ℕ) → (arguments : List (List ℕ)) → (rest : List ℕ) → Read

-- the column of a byte, from 1, counted from the beginning of the action
abbrev pub fault_at : List ℕ → SyntaxWhy → List ℕ → Read
fault_at line why left = fault (record { why = why; column = length line - length left + 1 })

abbrev pub with_arguments : List ℕ → List ℕ → Arguments → Read
with_arguments line name (given arguments rest) = action name arguments rest
with_arguments line name (stopped why left) = fault_at line why left

-- after blanks behind a name: nothing, parentheses, or words
abbrev pub after_name : List ℕ → List ℕ → List ℕ → Read
after_name line name [] = action name [] []
after_name line name (byte ∷ bytes) =
    with_arguments line name (if byte == 0x28 then between_parentheses (after_blanks bytes) else words_to_the_end (byte ∷ bytes))

-- a name is followed by a blank, `(` or the end
abbrev pub named : List ℕ → List ℕ → List ℕ → Read
named line name [] = action name [] []
named line name (byte ∷ bytes) =
    if is_blank byte || (byte == 0x28) then after_name line name (after_blanks (byte ∷ bytes)) else fault_at line BadName (byte ∷ bytes)

-- `#` and `!` begin a comment
abbrev pub action_at : List ℕ → Read
action_at [] = ends
action_at (byte ∷ bytes) =
    if (byte == 0x23) || (byte == 0x21) then ends
    else (if is_letter_or_digit byte
    then named (byte ∷ bytes) (take (prefix_len is_of_name (byte ∷ bytes)) (byte ∷ bytes)) (drop (prefix_len is_of_name (byte ∷ bytes)) (byte ∷ bytes))
    else fault_at (byte ∷ bytes) NoName (byte ∷ bytes))

-- the first action of a line
abbrev pub read_action : List ℕ → Read
read_action line = action_at (after_blanks line)
