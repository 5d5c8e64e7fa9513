-- What operands tell, looked up by their keywords.
use Rattle.std.specs.Prelude.{ℕ, Bool, false, List, [], ◌∷◌, codes, Option, Some, None, Result, Ok, Err, if◌then◌else◌}
use Rattle.bms_source.specs.declared.letter.Letter.{Letter}
use Rattle.bms_source.specs.declared.refusal.Why.{Why}
use Rattle.bms_source.specs.Told.{Told, told_with}
use Rattle.bms_source.specs.Words.{upper_word, is_named}
use Rattle.bms_map.specs.declared.field.Looks.{Looks}
use Rattle.bms_map.specs.declared.values.Kind.{Kind}
use Rattle.bms_map.specs.declared.values.Pos.{Pos}
use Rattle.bms_map.specs.Values.{kind_of, color_of, highlight_of, size_of, first_of, pos_of, number_within, ◌>>?◌}
use Rattle.bms_map.specs.Lists.{words_of, has, attribute_bits, control_value, validation_value, outline_value}
use Rattle.bms_map.specs.Texts.{string_of, digits_of, text_in}
use Rattle.bms_map.specs.Operands.{Given, told_of, place_of}

-- the operand of a keyword
abbrev pub operand_at : List ℕ → List Given → Option Given
operand_at name [] = None
operand_at name (given ∷ others) = if is_named given.keyword name then Some given else operand_at name others

abbrev pub its_value : Option Given → Option (List Letter)
its_value None = None
its_value (Some given) = Some given.value

abbrev pub its_keyword : Option Given → List Letter
its_keyword None = []
its_keyword (Some given) = given.keyword

abbrev pub value_at : List ℕ → List Given → Option (List Letter)
value_at name operands = its_value (operand_at name operands)

abbrev pub is_given : Option Given → Bool
is_given None = false
is_given (Some given) = Bool.true

-- a fault at the keyword of an operand
abbrev pub told_at_operand : Why → List ℕ → List Given → Told
told_at_operand why name operands = told_of why (its_keyword (operand_at name operands))

-- a fault of a name that an operand tells
abbrev pub told_name : Why → List ℕ → List ℕ → List Given → Told
told_name why keyword name operands = told_with why name (place_of (its_keyword (operand_at keyword operands)))

abbrev pub kind_in : List Given → Option Kind
kind_in operands = value_at (codes "TYPE") operands >>? kind_of

abbrev pub size_in : List Given → Option (ℕ × ℕ)
size_in operands = value_at (codes "SIZE") operands >>? size_of

abbrev pub first_or : Result ℕ Why → ℕ
first_or (Ok n) = n
first_or (Err why) = 0

abbrev pub first_in : Option (List Letter) → ℕ
first_in None = 0
first_in (Some value) = first_or (first_of value)

-- the line and the column of the screen on which a map begins, counted from 0
abbrev pub top_in : List Given → ℕ
top_in operands = first_in (value_at (codes "LINE") operands)

abbrev pub left_in : List Given → ℕ
left_in operands = first_in (value_at (codes "COLUMN") operands)

abbrev pub pos_in : List Given → Option Pos
pos_in operands = value_at (codes "POS") operands >>? pos_of

abbrev pub length_in : List Given → Option ℕ
length_in operands = value_at (codes "LENGTH") operands >>? λ value. number_within value 0 256

abbrev pub occurs_in : List Given → Option ℕ
occurs_in operands = value_at (codes "OCCURS") operands >>? λ value. number_within value 1 1000

abbrev pub upper_in : Option (List Letter) → Option (List ℕ)
upper_in None = None
upper_in (Some word) = Some (upper_word word)

-- GRPNAME in upper case
abbrev pub group_in : List Given → Option (List ℕ)
group_in operands = upper_in (value_at (codes "GRPNAME") operands)

abbrev pub bits_of : Option (List Letter) → ℕ
bits_of None = 0x30
bits_of (Some value) = attribute_bits (words_of value)

-- without ATTRB a field is protected, and the cursor skips it
abbrev pub attribute_in : List Given → ℕ
attribute_in operands = bits_of (value_at (codes "ATTRB") operands)

abbrev pub says_cursor : Option (List Letter) → Bool
says_cursor None = false
says_cursor (Some value) = has (words_of value) (codes "IC")

abbrev pub cursor_in : List Given → Bool
cursor_in operands = says_cursor (value_at (codes "ATTRB") operands)

abbrev pub control_of : Option (List Letter) → Option ℕ
control_of None = None
control_of (Some value) = Some (control_value (words_of value))

abbrev pub control_in : List Given → Option ℕ
control_in operands = control_of (value_at (codes "CTRL") operands)

abbrev pub list_value : (List (List Letter) → ℕ) → Option (List Letter) → Option ℕ
list_value value None = None
list_value value (Some letters) = Some (value (words_of letters))

abbrev pub looks_in : List Given → Looks
looks_in operands =
    record {
      highlight = value_at (codes "HILIGHT") operands >>? highlight_of;
      color = value_at (codes "COLOR") operands >>? color_of;
      validation = list_value validation_value (value_at (codes "VALIDN") operands);
      outline = list_value outline_value (value_at (codes "OUTLINE") operands);
    }

abbrev pub or_else : {A : Type 0} → Option A → Option A → Option A
or_else None other = other
or_else (Some value) other = Some value

abbrev pub looks_or : Looks → Looks → Looks
looks_or looks others =
    record {
      highlight = or_else looks.highlight others.highlight;
      color = or_else looks.color others.color;
      validation = or_else looks.validation others.validation;
      outline = or_else looks.outline others.outline;
    }

abbrev pub value_text : Option (List Letter) → Option (List Letter) → Option (List ℕ)
value_text None None = None
value_text None (Some digits) = text_in (digits_of digits)
value_text (Some characters) other = text_in (string_of characters)

-- the codes of INITIAL or XINIT
abbrev pub initial_in : List Given → Option (List ℕ)
initial_in operands = value_text (value_at (codes "INITIAL") operands) (value_at (codes "XINIT") operands)

abbrev pub name_if : Bool → List ℕ → Option (List ℕ)
name_if is_there name = if is_there then Some name else None

-- the later one of two operands, if both stand
abbrev pub later_of : List ℕ → List ℕ → List Given → Option (List ℕ)
later_of one other [] = None
later_of one other (given ∷ others) =
    if is_named given.keyword one then name_if (is_given (operand_at other others)) other
    else (if is_named given.keyword other then name_if (is_given (operand_at one others)) one else later_of one other others)
