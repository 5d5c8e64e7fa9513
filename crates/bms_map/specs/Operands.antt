-- The operands of a macro, judged one after the other.
use Rattle.std.specs.Prelude.{ℕ, zero, suc, Bool, ◌&&◌, nat_le, List, [], ◌∷◌, ◌++◌, codes, length, take, Option, Some, None, is_some, Result, Ok, Err, if◌then◌else◌}
use Rattle.std.specs.List.{list_any}
use Rattle.bms_source.specs.declared.letter.Letter.{Letter}
use Rattle.bms_source.specs.declared.letter.Place.{Place}
use Rattle.bms_source.specs.declared.refusal.Why.{Why}
use Rattle.bms_source.specs.declared.refusal.Why.TheVariants.{BadOperand, UnknownOperand, OperandTwice, Unsupported, BadValue, BadCharacter}
use Rattle.bms_source.specs.declared.statement.Operation.{Operation}
use Rattle.bms_source.specs.declared.statement.Operation.TheVariants.{Mapset, Map, Field, Passed, End}
use Rattle.bms_source.specs.Told.{Told, told_at, told_with, place_at, ◌>>=◌}
use Rattle.bms_source.specs.Words.{upper_word, is_symbol}
use Rattle.bms_source.specs.Scan.{comma_in}
use Rattle.bms_source.specs.Operand.{operand_in}
use Rattle.bms_map.specs.declared.keyword.Keyword.{Keyword}
use Rattle.bms_map.specs.declared.keyword.Keyword.TheVariants.{Kind, Control, Color, Highlight, Validation, Outline, Size, Line, Column, Justify, Pos, Length, Attribute, Initial, HexInitial, Occurs, Group, PictureIn, PictureOut, Symbols, NotYes, NotBlock, Terminal, Ignored, Unmodelled}
use Rattle.bms_map.specs.Values.{meaning_in, kind_of, color_of, highlight_of, size_of, first_of, pos_of, number_within, only, nothing_but}
use Rattle.bms_map.specs.Lists.{words_of, are_words, are_same, attribute_names, attributes_conflict, control_names, controls_conflict, validation_names, outline_names, never, list_fault, justify_fault}
use Rattle.bms_map.specs.Texts.{Read, codes as text_codes, another, bad, string_of, digits_of}

-- an operand
pub record Given : Type 0 where
  pub keyword : List Letter
  pub value : List Letter

-- operands, and what follows them: nothing, or one of another form
pub record Row : Type 0 where
  pub operands : List Given
  pub rest : Result (Unit {0}) Told

abbrev pub with_operand : Given → Row → Row
with_operand given row = record row { operands = given ∷ row.operands }

abbrev pub row_of : Letter → Option (List Letter × List Letter) → Row → Row
row_of first None others = record { operands = []; rest = Err (told_at BadOperand first.place) }
row_of first (Some pair) others = with_operand (record { keyword = pair.0; value = pair.1 }) others

-- the operands of letters behind so many of them: each goes up to a comma outside strings and parentheses
abbrev pub row_from : ℕ → List Letter → Row
row_from skip [] = record { operands = []; rest = Ok tt }
row_from (suc skip) (letter ∷ letters) = row_from skip letters
row_from zero (letter ∷ letters) =
    row_of letter (operand_in (take (comma_in (letter ∷ letters)) (letter ∷ letters))) (row_from (comma_in (letter ∷ letters)) letters)

-- ---- the operands of each macro

unfoldable pub of_mapset : List (List ℕ × Keyword)
of_mapset =
    (codes "TYPE", Kind) ∷ (codes "CTRL", Control) ∷ (codes "COLOR", Color) ∷ (codes "HILIGHT", Highlight) ∷ (codes "VALIDN", Validation)
    ∷ (codes "OUTLINE", Outline) ∷ (codes "MODE", Ignored) ∷ (codes "LANG", Ignored) ∷ (codes "STORAGE", Ignored) ∷ (codes "BASE", Ignored)
    ∷ (codes "TIOAPFX", Ignored) ∷ (codes "SUFFIX", Ignored) ∷ (codes "EXTATT", Ignored) ∷ (codes "MAPATTS", Ignored) ∷ (codes "DSATTS", Ignored)
    ∷ (codes "TRANSP", Ignored) ∷ (codes "CURSLOC", Ignored) ∷ (codes "FOLD", Ignored) ∷ (codes "DSECT", Ignored) ∷ (codes "FLDSEP", Ignored)
    ∷ (codes "HTAB", Ignored) ∷ (codes "VTAB", Ignored) ∷ (codes "LDC", Ignored) ∷ (codes "PS", Symbols) ∷ (codes "SOSI", NotYes)
    ∷ (codes "DATA", NotBlock) ∷ (codes "OBFMT", NotYes) ∷ (codes "TERM", Terminal) ∷ (codes "PARTN", Unmodelled) ∷ []

unfoldable pub of_map : List (List ℕ × Keyword)
of_map =
    (codes "SIZE", Size) ∷ (codes "LINE", Line) ∷ (codes "COLUMN", Column) ∷ (codes "JUSTIFY", Justify) ∷ (codes "CTRL", Control)
    ∷ (codes "COLOR", Color) ∷ (codes "HILIGHT", Highlight) ∷ (codes "VALIDN", Validation) ∷ (codes "OUTLINE", Outline) ∷ (codes "HEADER", Ignored)
    ∷ (codes "TRAILER", Ignored) ∷ (codes "FIELDS", Ignored) ∷ (codes "EXTATT", Ignored) ∷ (codes "MAPATTS", Ignored) ∷ (codes "DSATTS", Ignored)
    ∷ (codes "TRANSP", Ignored) ∷ (codes "TIOAPFX", Ignored) ∷ (codes "CURSLOC", Ignored) ∷ (codes "FLDSEP", Ignored) ∷ (codes "PS", Symbols)
    ∷ (codes "SOSI", NotYes) ∷ (codes "DATA", NotBlock) ∷ (codes "OBFMT", NotYes) ∷ (codes "PARTN", Unmodelled) ∷ []

unfoldable pub of_field : List (List ℕ × Keyword)
of_field =
    (codes "POS", Pos) ∷ (codes "LENGTH", Length) ∷ (codes "ATTRB", Attribute) ∷ (codes "INITIAL", Initial) ∷ (codes "XINIT", HexInitial)
    ∷ (codes "GINIT", Unmodelled) ∷ (codes "OCCURS", Occurs) ∷ (codes "GRPNAME", Group) ∷ (codes "COLOR", Color) ∷ (codes "HILIGHT", Highlight)
    ∷ (codes "VALIDN", Validation) ∷ (codes "OUTLINE", Outline) ∷ (codes "PS", Symbols) ∷ (codes "SOSI", NotYes) ∷ (codes "PICIN", PictureIn)
    ∷ (codes "PICOUT", PictureOut) ∷ (codes "JUSTIFY", Ignored) ∷ (codes "TRANSP", Ignored) ∷ (codes "CASE", Ignored) ∷ []

abbrev pub table_of : Operation → List (List ℕ × Keyword)
table_of Mapset = of_mapset
table_of Map = of_map
table_of Field = of_field
table_of Passed = of_field
table_of End = of_field

abbrev pub keyword_of : Operation → List Letter → Option Keyword
keyword_of operation word = meaning_in (table_of operation) word

-- ---- what is wrong with a value

abbrev pub unless_good : Bool → Option Why
unless_good good = if good then None else Some BadValue

abbrev pub absent : {A : Type 0} → Option A → Option Why
absent value = unless_good (is_some value)

abbrev pub error_in : {A : Type 0} → Result A Why → Option Why
error_in (Ok value) = None
error_in (Err why) = Some why

abbrev pub places_fault : List (List Letter) → Option Why
places_fault words = if are_words words then justify_fault words else Some BadValue

-- a symbol of at most 30 characters
abbrev pub is_group : List Letter → Bool
is_group value = is_symbol value && nat_le (length value) 30

-- of an operand that is no text
abbrev pub value_fault : Keyword → List Letter → Option Why
value_fault Kind value = absent (kind_of value)
value_fault Control value = list_fault control_names controls_conflict (words_of value)
value_fault Color value = absent (color_of value)
value_fault Highlight value = absent (highlight_of value)
value_fault Validation value = list_fault validation_names never (words_of value)
value_fault Outline value = list_fault outline_names never (words_of value)
value_fault Size value = absent (size_of value)
value_fault Line value = error_in (first_of value)
value_fault Column value = error_in (first_of value)
value_fault Justify value = places_fault (words_of value)
value_fault Pos value = absent (pos_of value)
value_fault Length value = absent (number_within value 0 256)
value_fault Attribute value = list_fault attribute_names attributes_conflict (words_of value)
value_fault Initial value = None
value_fault HexInitial value = None
value_fault Occurs value = absent (number_within value 1 1000)
value_fault Group value = unless_good (is_group value)
value_fault PictureIn value = None
value_fault PictureOut value = None
value_fault Symbols value = nothing_but value (codes "BASE" ∷ [])
value_fault NotYes value = only value (codes "NO") (codes "YES")
value_fault NotBlock value = only value (codes "FIELD") (codes "BLOCK")
value_fault Terminal value = nothing_but value (codes "ALL" ∷ codes "3270" ∷ codes "3270-2" ∷ [])
value_fault Ignored value = None
value_fault Unmodelled value = Some Unsupported

-- what a text would be
abbrev pub text_read : Keyword → List Letter → Read
text_read Initial value = string_of value
text_read HexInitial value = digits_of value
text_read keyword value = text_codes []

abbrev pub place_of : List Letter → Place
place_of [] = place_at 1 1
place_of (letter ∷ letters) = letter.place

-- at a keyword
abbrev pub told_of : Why → List Letter → Told
told_of why keyword = told_with why (upper_word keyword) (place_of keyword)

abbrev pub judge_why : List Letter → Option Why → Result (Unit {0}) Told
judge_why keyword None = Ok tt
judge_why keyword (Some why) = Err (told_of why keyword)

abbrev pub judge_text : List Letter → Read → Result (Unit {0}) Told
judge_text keyword (text_codes text) = Ok tt
judge_text keyword another = Err (told_of BadValue keyword)
judge_text keyword (bad place) = Err (told_with BadCharacter (upper_word keyword) place)

unfoldable pub judge_value : Keyword → Given → Result (Unit {0}) Told
judge_value keyword given =
    judge_text given.keyword (text_read keyword given.value) >>= λ good. judge_why given.keyword (value_fault keyword given.value)

-- the keyword of an operand before
abbrev pub is_repeated : List Given → List Letter → Bool
is_repeated before keyword = list_any (λ (other : Given). are_same other.keyword keyword) before

abbrev pub judge_keyword : List Given → Given → Option Keyword → Result (Unit {0}) Told
judge_keyword before given None = Err (told_of UnknownOperand given.keyword)
judge_keyword before given (Some keyword) =
    if is_repeated before given.keyword then Err (told_of OperandTwice given.keyword) else judge_value keyword given

-- an operand behind those before it: a keyword that the macro has, for the first time, with a value that is good
unfoldable pub judge : Operation → List Given → Given → Result (Unit {0}) Told
judge operation before given = judge_keyword before given (keyword_of operation given.keyword)

-- operands behind those before them, from left to right
abbrev pub judged : Operation → List Given → List Given → Result (Unit {0}) Told
judged operation before [] = Ok tt
judged operation before (given ∷ others) = judge operation before given >>= λ good. judged operation (before ++ given ∷ []) others

abbrev pub good_row : Operation → Row → Result (List Given) Told
good_row operation row = judged operation [] row.operands >>= λ good. row.rest >>= λ end. Ok row.operands

-- the operands of a macro, or the first fault
abbrev pub operands_of : Operation → List Letter → Result (List Given) Told
operands_of operation letters = good_row operation (row_from 0 letters)
