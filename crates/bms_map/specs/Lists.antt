-- Values that are lists of words.
use Rattle.std.specs.Prelude.{ℕ, ◌+◌, Bool, true, false, not, ◌&&◌, ◌||◌, ◌==◌, nat_lt, List, [], ◌∷◌, codes, length, take, drop, Option, Some, None, if◌then◌else◌}
use Rattle.std.specs.List.{list_all, list_any}
use Rattle.bms_source.specs.declared.letter.Letter.{Letter}
use Rattle.bms_source.specs.declared.refusal.Why.{Why}
use Rattle.bms_source.specs.declared.refusal.Why.TheVariants.{Unsupported, BadValue, Conflict}
use Rattle.bms_source.specs.Words.{upper, is_named}
use Rattle.bms_map.specs.Values.{between, comma_in}

abbrev pub with_letter : Letter → List (List Letter) → List (List Letter)
with_letter letter [] = (letter ∷ []) ∷ []
with_letter letter (item ∷ items) = (letter ∷ item) ∷ items

-- the items between the commas
abbrev pub items_of : List Letter → List (List Letter)
items_of [] = [] ∷ []
items_of (letter ∷ letters) = if letter.code == 44 then [] ∷ items_of letters else with_letter letter (items_of letters)

abbrev pub cut_by : List Letter → List Letter → Option (List Letter × List Letter)
cut_by item [] = None
cut_by item (comma ∷ others) = Some (item, others)

-- the item before the first comma and what comes after it, if there is one
abbrev pub cut : List Letter → Option (List Letter × List Letter)
cut letters = cut_by (take (comma_in letters) letters) (drop (comma_in letters) letters)

abbrev pub or_value : Option (List Letter) → List Letter → List Letter
or_value None value = value
or_value (Some inner) value = inner

-- the items inside the parentheses of a list, or a word alone
abbrev pub words_of : List Letter → List (List Letter)
words_of value = items_of (or_value (between value 40 41) value)

-- a character of a word
abbrev pub is_of_word : ℕ → Bool
is_of_word code = not ((code == 40) || ((code == 41) || ((code == 44) || (code == 39))))

abbrev pub is_word : List Letter → Bool
is_word letters = not (length letters == 0) && list_all (λ letter. is_of_word letter.code) letters

abbrev pub are_words : List (List Letter) → Bool
are_words words = list_all is_word words

-- a word is one of these
abbrev pub is_among : List (List ℕ) → List Letter → Bool
is_among [] word = false
is_among (name ∷ names) word = is_named word name || is_among names word

abbrev pub are_among : List (List ℕ) → List (List Letter) → Bool
are_among names words = list_all (is_among names) words

-- one of the words is this one
abbrev pub has : List (List Letter) → List ℕ → Bool
has words name = list_any (λ word. is_named word name) words

-- the same word, in either case
abbrev pub are_same : List Letter → List Letter → Bool
are_same [] [] = true
are_same [] (b ∷ bs) = false
are_same (a ∷ as_) [] = false
are_same (a ∷ as_) (b ∷ bs) = (upper a.code == upper b.code) && are_same as_ bs

abbrev pub has_twice : List (List Letter) → Bool
has_twice [] = false
has_twice (word ∷ words) = list_any (are_same word) words || has_twice words

-- how many words are one of these
abbrev pub count_among : List (List ℕ) → List (List Letter) → ℕ
count_among names [] = 0
count_among names (word ∷ words) = (if is_among names word then 1 else 0) + count_among names words

abbrev pub value_if : Bool → ℕ → ℕ
value_if true value = value
value_if false value = 0

-- ---- ATTRB

unfoldable pub attribute_names : List (List ℕ)
attribute_names =
    codes "UNPROT" ∷ codes "PROT" ∷ codes "ASKIP" ∷ codes "NUM" ∷ codes "FSET" ∷ codes "NORM" ∷ codes "DET" ∷ codes "BRT" ∷ codes "DRK" ∷ codes "IC" ∷ []

unfoldable pub protections : List (List ℕ)
protections = codes "ASKIP" ∷ codes "PROT" ∷ codes "UNPROT" ∷ []

unfoldable pub intensities : List (List ℕ)
intensities = codes "BRT" ∷ codes "NORM" ∷ codes "DRK" ∷ []

-- words that exclude each other
unfoldable pub attributes_conflict : List (List Letter) → Bool
attributes_conflict words =
    has_twice words || (nat_lt 1 (count_among protections words) || (nat_lt 1 (count_among intensities words) || (has words (codes "DET") && has words (codes "DRK"))))

-- the bits, from the highest: protected, numeric, intensified, detectable, modified
unfoldable pub attribute_bits : List (List Letter) → ℕ
attribute_bits words =
    value_if (has words (codes "PROT") || has words (codes "ASKIP")) 0x20 + value_if (has words (codes "NUM") || has words (codes "ASKIP")) 0x10
    + value_if (has words (codes "BRT") || has words (codes "DRK")) 0x08 + value_if (has words (codes "DET") || has words (codes "DRK")) 0x04
    + value_if (has words (codes "FSET")) 0x01

-- ---- CTRL

unfoldable pub control_names : List (List ℕ)
control_names = codes "FREEKB" ∷ codes "ALARM" ∷ codes "FRSET" ∷ codes "PRINT" ∷ codes "HONEOM" ∷ codes "L40" ∷ codes "L64" ∷ codes "L80" ∷ []

unfoldable pub formats : List (List ℕ)
formats = codes "HONEOM" ∷ codes "L40" ∷ codes "L64" ∷ codes "L80" ∷ []

unfoldable pub controls_conflict : List (List Letter) → Bool
controls_conflict words = has_twice words || nat_lt 1 (count_among formats words)

unfoldable pub control_value : List (List Letter) → ℕ
control_value words =
    value_if (has words (codes "L64") || has words (codes "L80")) 0x20 + value_if (has words (codes "L40") || has words (codes "L80")) 0x10
    + value_if (has words (codes "PRINT")) 0x08 + value_if (has words (codes "ALARM")) 0x04 + value_if (has words (codes "FREEKB")) 0x02
    + value_if (has words (codes "FRSET")) 0x01

-- ---- VALIDN, OUTLINE, JUSTIFY

unfoldable pub validation_names : List (List ℕ)
validation_names = codes "MUSTFILL" ∷ codes "MUSTENTER" ∷ codes "TRIGGER" ∷ codes "USEREXIT" ∷ []

unfoldable pub validation_value : List (List Letter) → ℕ
validation_value words =
    value_if (has words (codes "MUSTFILL")) 0x04 + value_if (has words (codes "MUSTENTER")) 0x02 + value_if (has words (codes "TRIGGER")) 0x01

unfoldable pub outline_names : List (List ℕ)
outline_names = codes "BOX" ∷ codes "LEFT" ∷ codes "OVER" ∷ codes "RIGHT" ∷ codes "UNDER" ∷ []

unfoldable pub outline_value : List (List Letter) → ℕ
outline_value words =
    value_if (has words (codes "LEFT") || has words (codes "BOX")) 0x08 + value_if (has words (codes "OVER") || has words (codes "BOX")) 0x04
    + value_if (has words (codes "RIGHT") || has words (codes "BOX")) 0x02 + value_if (has words (codes "UNDER") || has words (codes "BOX")) 0x01

unfoldable pub good_places : List (List ℕ)
good_places = codes "LEFT" ∷ codes "FIRST" ∷ []

unfoldable pub other_places : List (List ℕ)
other_places = codes "RIGHT" ∷ codes "LAST" ∷ codes "BOTTOM" ∷ []

-- the first word of JUSTIFY under which a map has no place of its own
abbrev pub justify_fault : List (List Letter) → Option Why
justify_fault [] = None
justify_fault (word ∷ words) =
    if is_among good_places word then justify_fault words else (if is_among other_places word then Some Unsupported else Some BadValue)

-- a list of words of these, which don't exclude each other
abbrev pub list_fault : List (List ℕ) → (List (List Letter) → Bool) → List (List Letter) → Option Why
list_fault names conflict words =
    if are_words words && are_among names words then (if conflict words then Some Conflict else None) else Some BadValue

abbrev pub never : List (List Letter) → Bool
never words = false
