-- Statements.
use Rattle.std.specs.Prelude.{ℕ, ◌+◌, Bool, true, ◌&&◌, ◌||◌, ◌==◌, nat_le, List, [], ◌∷◌, codes, length, take, drop, Option, Some, None, Result, Ok, Err, if◌then◌else◌}
use Rattle.bms_source.specs.declared.columns.Part.TheVariants.{First}
use Rattle.bms_source.specs.declared.letter.Letter.{Letter}
use Rattle.bms_source.specs.declared.letter.Place.{Place}
use Rattle.bms_source.specs.declared.refusal.Why.TheVariants.{UnknownOperation}
use Rattle.bms_source.specs.declared.statement.Operation.{Operation}
use Rattle.bms_source.specs.declared.statement.Operation.TheVariants.{Mapset, Map, Field, Passed, End}
use Rattle.bms_source.specs.Told.{Told, told_at, told_with, place_at, ◌>>=◌}
use Rattle.bms_source.specs.Words.{upper_word, is_symbol, is_named}
use Rattle.bms_source.specs.Rows.{Line, rows_from}
use Rattle.bms_source.specs.Gathered.{operands_of}

-- a macro as it stands: its first line, where its operation stands, its label and its operands
pub record Said : Type 0 where
  pub operation : Operation
  pub place : Place
  pub line : ℕ
  pub label : List Letter
  pub operands : List Letter

pub data Found : Type 0 where
  passed : Found
  ended : (place : Place) → Found
  said : (statement : Said) → Found

abbrev pub word_length : List Letter → ℕ
word_length [] = 0
word_length (letter ∷ letters) = if letter.code == 32 then 0 else 1 + word_length letters

abbrev pub blank_length : List Letter → ℕ
blank_length [] = 0
blank_length (letter ∷ letters) = if letter.code == 32 then 1 + blank_length letters else 0

-- the word at the front, and what follows its blanks
abbrev pub word_in : List Letter → List Letter
word_in letters = take (word_length letters) letters

abbrev pub after_word : List Letter → List Letter
after_word letters = drop (blank_length (drop (word_length letters) letters)) (drop (word_length letters) letters)

-- it begins with `*` or `.*`, or is blank
abbrev pub is_comment : List Letter → Bool
is_comment [] = true
is_comment (a ∷ []) = (a.code == 42) || (a.code == 32)
is_comment (a ∷ b ∷ rest) = ((a.code == 46) && (b.code == 42)) || ((a.code == 42) || (blank_length (a ∷ b ∷ rest) == length (a ∷ b ∷ rest)))

unfoldable pub operation_of : List Letter → Option Operation
operation_of word =
    if is_named word (codes "DFHMDF") then Some Field
    else (if is_named word (codes "DFHMDI") then Some Map
    else (if is_named word (codes "DFHMSD") then Some Mapset
    else (if is_named word (codes "END") then Some End
    else (if is_named word (codes "PRINT") || (is_named word (codes "TITLE") || (is_named word (codes "EJECT") || is_named word (codes "SPACE"))) then Some Passed
    else None))))

abbrev pub place_of : ℕ → List Letter → Place
place_of line [] = place_at line 1
place_of line (letter ∷ letters) = letter.place

unfoldable pub unknown : ℕ → List Letter → Told
unknown line word =
    if is_symbol word && nat_le (length word) 63 then told_with UnknownOperation (upper_word word) (place_of line word)
    else told_at UnknownOperation (place_of line word)

abbrev pub said_of : Operation → Place → ℕ → List Letter → Result (List Letter) Told → Result Found Told
said_of operation place line label (Err e) = Err e
said_of operation place line label (Ok operands) =
    Ok (said (record { operation = operation; place = place; line = line; label = label; operands = operands }))

abbrev pub macro_of : Operation → ℕ → List Letter → List Letter → List Letter → List Line → Result Found Told
macro_of operation line label word text rows = said_of operation (place_of line word) line label (operands_of text rows)

abbrev pub found_of : Option Operation → ℕ → List Letter → List Letter → List Letter → List Line → Result Found Told
found_of None line label word text rows = Err (unknown line word)
found_of (Some Passed) line label word text rows = Ok passed
found_of (Some End) line label word text rows = Ok (ended (place_of line word))
found_of (Some Mapset) line label word text rows = macro_of Mapset line label word text rows
found_of (Some Map) line label word text rows = macro_of Map line label word text rows
found_of (Some Field) line label word text rows = macro_of Field line label word text rows

-- the statement of a line of these letters, and of further lines
unfoldable pub statement_of : ℕ → List Letter → List Line → Result Found Told
statement_of line letters rows =
    if is_comment letters then Ok passed
    else found_of (operation_of (word_in (after_word letters))) line (word_in letters) (word_in (after_word letters)) (after_word (after_word letters)) rows

abbrev pub found_in : List Line → Result (Found × ℕ) Told
found_in [] = Ok (passed, 0)
found_in (row ∷ rows) = statement_of row.number row.letters rows >>= λ found. Ok (found, length (row ∷ rows))

-- what stands at the front of lines, of which the first has this number, and how many lines it has
unfoldable pub statement_in : ℕ → List (List ℕ) → Result (Found × ℕ) Told
statement_in number lines = rows_from First number lines >>= found_in
