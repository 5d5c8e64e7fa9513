-- Values of operands: words, numbers and pairs.
use Rattle.std.specs.Prelude.{ℕ, ◌+◌, ◌-◌, ◌*◌, Bool, false, ◌&&◌, ◌||◌, ◌==◌, nat_le, nat_lt, List, [], ◌∷◌, codes, length, take, drop, slice_get, Option, Some, None, Result, Ok, Err, if◌then◌else◌}
use Rattle.bms_source.specs.declared.letter.Letter.{Letter}
use Rattle.bms_source.specs.declared.refusal.Why.{Why}
use Rattle.bms_source.specs.declared.refusal.Why.TheVariants.{Unsupported, BadValue}
use Rattle.bms_source.specs.Words.{is_digit, is_named}
use Rattle.bms_map.specs.declared.values.Pos.{Pos}
use Rattle.bms_map.specs.declared.values.Pos.TheVariants.{Pair, Number}
use Rattle.bms_map.specs.declared.values.Kind.{Kind}
use Rattle.bms_map.specs.declared.values.Kind.TheVariants.{Begin, Final}

-- one step after another, up to the first that gives nothing
infixl 10 ◌>>?◌
abbrev pub ◌>>?◌ : {A B : Type 0} → Option A → (A → Option B) → Option B
None >>? f = None
(Some x) >>? f = f x

-- decimal digits behind those of a number
abbrev pub digits_from : ℕ → List Letter → Option ℕ
digits_from number [] = Some number
digits_from number (letter ∷ letters) = if is_digit letter.code then digits_from (number * 10 + (letter.code - 48)) letters else None

-- 1 to 9 decimal digits
abbrev pub number_of : List Letter → Option ℕ
number_of value = if (length value == 0) || nat_lt 9 (length value) then None else digits_from 0 value

abbrev pub if_within : ℕ → ℕ → ℕ → Option ℕ
if_within least most number = if nat_le least number && nat_le number most then Some number else None

abbrev pub number_within : List Letter → ℕ → ℕ → Option ℕ
number_within value least most = number_of value >>? if_within least most

abbrev pub is_letter : Option Letter → ℕ → Bool
is_letter None code = false
is_letter (Some letter) code = letter.code == code

-- what stands between a first and a last character
unfoldable pub between : List Letter → ℕ → ℕ → Option (List Letter)
between value opening closing =
    if nat_lt (length value) 2 then None
    else (if is_letter (slice_get value 0) opening && is_letter (slice_get value (length value - 1)) closing then Some (take (length value - 2) (drop 1 value)) else None)

-- how many letters stand before the first comma
abbrev pub comma_in : List Letter → ℕ
comma_in [] = 0
comma_in (letter ∷ letters) = if letter.code == 44 then 0 else 1 + comma_in letters

abbrev pub with_second : ℕ → Option ℕ → Option (ℕ × ℕ)
with_second first None = None
with_second first (Some second) = Some (first, second)

abbrev pub numbers_of : List Letter → List Letter → Option (ℕ × ℕ)
numbers_of first [] = None
numbers_of first (comma ∷ second) = number_of first >>? λ n. with_second n (number_of second)

abbrev pub pair_in : List Letter → Option (ℕ × ℕ)
pair_in inner = numbers_of (take (comma_in inner) inner) (drop (comma_in inner) inner)

-- (number,number)
abbrev pub pair_of : List Letter → Option (ℕ × ℕ)
pair_of value = between value 40 41 >>? pair_in

-- a number of lines or columns
abbrev pub side_of : ℕ → Option ℕ
side_of number = if_within 1 240 number

abbrev pub sides_of : ℕ × ℕ → Option (ℕ × ℕ)
sides_of pair = side_of pair.0 >>? λ lines. with_second lines (side_of pair.1)

-- SIZE
abbrev pub size_of : List Letter → Option (ℕ × ℕ)
size_of value = pair_of value >>? sides_of

abbrev pub pos_or : Option (ℕ × ℕ) → Option ℕ → Option Pos
pos_or (Some pair) number = Some (Pair pair.0 pair.1)
pos_or None None = None
pos_or None (Some number) = Some (Number number)

-- POS
abbrev pub pos_of : List Letter → Option Pos
pos_of value = pos_or (pair_of value) (number_of value)

-- TYPE
unfoldable pub kind_of : List Letter → Option Kind
kind_of value =
    if is_named value (codes "FINAL") then Some Final
    else (if is_named value (codes "MAP") || (is_named value (codes "DSECT") || is_named value (codes "&SYSPARM")) then Some Begin else None)

-- what a word stands for among these
abbrev pub meaning_in : {A : Type 0} → List (List ℕ × A) → List Letter → Option A
meaning_in [] value = None
meaning_in (entry ∷ entries) value = if is_named value entry.0 then Some entry.1 else meaning_in entries value

-- the values of a pair for colors, 0 for none
unfoldable pub colors : List (List ℕ × ℕ)
colors =
    (codes "DEFAULT", 0) ∷ (codes "BLUE", 0xF1) ∷ (codes "RED", 0xF2) ∷ (codes "PINK", 0xF3) ∷ (codes "GREEN", 0xF4) ∷ (codes "TURQUOISE", 0xF5)
    ∷ (codes "YELLOW", 0xF6) ∷ (codes "NEUTRAL", 0xF7) ∷ []

-- those for highlights
unfoldable pub highlights : List (List ℕ × ℕ)
highlights = (codes "OFF", 0) ∷ (codes "BLINK", 0xF1) ∷ (codes "REVERSE", 0xF2) ∷ (codes "UNDERLINE", 0xF4) ∷ []

abbrev pub color_of : List Letter → Option ℕ
color_of value = meaning_in colors value

abbrev pub highlight_of : List Letter → Option ℕ
highlight_of value = meaning_in highlights value

-- one word is good, another one unsupported
abbrev pub only : List Letter → List ℕ → List ℕ → Option Why
only value good other = if is_named value good then None else (if is_named value other then Some Unsupported else Some BadValue)

-- nothing but these words is supported
abbrev pub nothing_but : List Letter → List (List ℕ) → Option Why
nothing_but value [] = Some Unsupported
nothing_but value (name ∷ names) = if is_named value name then None else nothing_but value names

abbrev pub before_it : Option ℕ → Result ℕ Why
before_it None = Err BadValue
before_it (Some number) = Ok (number - 1)

-- LINE and COLUMN, counted from 0
abbrev pub first_of : List Letter → Result ℕ Why
first_of value =
    if is_named value (codes "NEXT") || is_named value (codes "SAME") then Err Unsupported else before_it (number_within value 1 240)
