-- Operands over several lines.
use Rattle.std.specs.Prelude.{◌-◌, Bool, false, not, ◌&&◌, ◌||◌, ◌==◌, List, [], ◌∷◌, ◌++◌, length, take, drop, Option, Some, None, slice_get, Result, Ok, Err, if◌then◌else◌}
use Rattle.bms_source.specs.declared.letter.Letter.{Letter}
use Rattle.bms_source.specs.declared.letter.Place.{Place}
use Rattle.bms_source.specs.declared.refusal.Why.{Why}
use Rattle.bms_source.specs.declared.refusal.Why.TheVariants.{Unended, Comma, AfterOperands, Column16}
use Rattle.bms_source.specs.Told.{Told, told_at, place_at, ◌>>=◌}
use Rattle.bms_source.specs.Rows.{Line}
use Rattle.bms_source.specs.Scan.{open_string, open_parenthesis, taken_count, taken_quoted}

-- operands so far, whether they end inside a string, and whether they reach the edge of their line
pub record Part : Type 0 where
  pub letters : List Letter
  pub quoted : Bool
  pub at_edge : Bool

abbrev pub from_16 : Line → List Letter
from_16 row = drop 15 row.letters

abbrev pub first_other : List Letter → Option Place
first_other [] = None
first_other (letter ∷ letters) = if letter.code == 32 then first_other letters else Some letter.place

abbrev pub last_of : List Letter → Option Letter
last_of letters = slice_get letters (length letters - 1)

abbrev pub is_comma : Option Letter → Bool
is_comma None = false
is_comma (Some letter) = letter.code == 44

abbrev pub follows_comma : Part → Bool
follows_comma part = not part.quoted && is_comma (last_of part.letters)

abbrev pub goes_on : Part → Bool
goes_on part = part.at_edge || follows_comma part

abbrev pub with_text : Part → List Letter → Part
with_text part text =
    record {
      letters = part.letters ++ take (taken_count part.quoted text) text;
      quoted = taken_quoted part.quoted text;
      at_edge = taken_count part.quoted text == length text;
    }

abbrev pub place_or : Option Place → Place → Place
place_or None place = place
place_or (Some at) place = at

abbrev pub has_text : List Letter → Bool
has_text [] = false
has_text (letter ∷ letters) = not (letter.code == 32)

-- column 16 has text
abbrev pub judge_16 : Line → Result (Unit {0}) Told
judge_16 row =
    if has_text (from_16 row) then Ok tt else Err (told_at Column16 (place_or (first_other (from_16 row)) (place_at row.number 16)))

abbrev pub judged_16 : Part → Line → Result (Unit {0}) Told
judged_16 part row = if follows_comma part then judge_16 row else Ok tt

-- with what a further line has of the operands
unfoldable pub with_row : Part → Line → Result Part Told
with_row part row = judged_16 part row >>= λ good. Ok (with_text part (from_16 row))

-- the operands, and the lines after them
abbrev pub gathered : Part → List Line → Result (Part × List Line) Told
gathered part [] = Ok (part, [])
gathered part (row ∷ rows) = if goes_on part then (with_row part row >>= λ more. gathered more rows) else Ok (part, row ∷ rows)

abbrev pub unless_place : Why → Option Place → Result (Unit {0}) Told
unless_place why None = Ok tt
unless_place why (Some place) = Err (told_at why place)

abbrev pub judge_comma : Option Letter → Result (Unit {0}) Told
judge_comma None = Ok tt
judge_comma (Some letter) = if letter.code == 44 then Err (told_at Comma letter.place) else Ok tt

-- a string, a comma or a parenthesis that is open at the end
unfoldable pub judge_end : List Letter → Result (Unit {0}) Told
judge_end letters = do
  closed ← unless_place Unended (open_string letters)
  followed ← judge_comma (last_of letters)
  unless_place Unended (open_parenthesis letters)

abbrev pub judge_later : List Line → Result (Unit {0}) Told
judge_later [] = Ok tt
judge_later (row ∷ rows) = unless_place AfterOperands (first_other (from_16 row)) >>= λ blank. judge_later rows

abbrev pub nothing : Part
nothing = record { letters = []; quoted = false; at_edge = false }

abbrev pub begun : List Letter → Part
begun [] = nothing
begun (letter ∷ letters) = with_text nothing (letter ∷ letters)

-- the operands of a statement, of whose first line this text belongs to them, and which has these further lines
unfoldable pub operands_of : List Letter → List Line → Result (List Letter) Told
operands_of text rows = do
  found ← gathered (begun text) rows
  whole ← judge_end found.0.letters
  blank ← judge_later found.1
  Ok found.0.letters
