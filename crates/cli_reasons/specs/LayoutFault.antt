-- Where the key of a layout stands that is refused, and what is said of it.
use Rattle.std.specs.Prelude.{ℕ, ◌==◌, ◌&&◌, ◌||◌, Bool, false, List, [], ◌∷◌, ◌++◌, codes, Option, Some, None, if◌then◌else◌}
use Rattle.scr_layout.specs.declared.fault.LayoutKey.{LayoutKey}
use Rattle.scr_layout.specs.declared.fault.LayoutKey.TheVariants.{Unknown, Count, Down}
use Rattle.scr_layout.specs.declared.fault.Why.{Why}
use Rattle.scr_layout.specs.declared.fault.Why.TheVariants.{MissingKey, TooManyFields}
use Rattle.scr_layout.specs.declared.fault.LayoutFault.{LayoutFault}
use Rattle.cli_commands.specs.Lines.{lines_in}
use Rattle.cli_reasons.specs.declared.head.Place.{Place}
use Rattle.cli_reasons.specs.declared.head.Place.TheVariants.{Whole, Line}
use Rattle.cli_reasons.specs.declared.layout_line.Wanted.{Wanted}
use Rattle.cli_reasons.specs.declared.layout_line.Wanted.TheVariants.{Key, UnknownTop, UnknownField}
use Rattle.cli_reasons.specs.Counts.{next_number}
use Rattle.cli_reasons.specs.Head.{head_text, line_head}
use Rattle.cli_reasons.specs.LayoutLine.{line_where, table_line, key_of}
use Rattle.cli_reasons.specs.LayoutWords.{key_reason}
use Rattle.cli_reasons.specs.Nearest.{nearest}
use Rattle.cli_reasons.specs.Sentence.{near_text}
use Rattle.cli_reasons.specs.Shown.{front_of, quoted}
use Rattle.cli_reasons.specs.Words.{field_words, top_words}

-- ---- the line

abbrev pub are_three : ℕ → List ℕ → Bool
are_three quote (a ∷ (b ∷ (c ∷ rest))) = a == quote && (b == quote && c == quote)
are_three quote other = false

-- three quotes begin a string of several lines, in which a line may look like a key's
abbrev pub has_long_text : List ℕ → Bool
has_long_text [] = false
has_long_text (b ∷ bs) = are_three 0x22 (b ∷ bs) || are_three 0x27 (b ∷ bs) || has_long_text bs

-- how many tables begin before the keys of a field, or of the top
abbrev pub tables_before : Option ℕ → ℕ
tables_before None = 0
tables_before (Some index) = next_number index

abbrev pub line_place : Option ℕ → Place
line_place None = Whole
line_place (Some number) = Line number

abbrev pub place_found : Option (ℕ × List ℕ) → Place
place_found None = Whole
place_found (Some found) = Line found.0

abbrev pub key_place : List ℕ → Option ℕ → Wanted → Place
key_place text field wanted = place_found (line_where wanted 1 (tables_before field) (lines_in text))

-- the line with which the table of a field begins
abbrev pub field_place : List ℕ → Option ℕ → Place
field_place text None = Whole
field_place text (Some index) = line_place (table_line 1 index (lines_in text))

abbrev pub plain_place : List ℕ → Option ℕ → LayoutKey → Why → Place
plain_place text field key MissingKey = field_place text field
plain_place text field key TooManyFields = field_place text (Some 1000)
plain_place text field key why = key_place text field (Key key)

-- the line of a known key, that of its table where it is missing, or that of the first table too many
abbrev pub known_place : List ℕ → Option ℕ → LayoutKey → Why → Place
known_place text field key why = if has_long_text text then Whole else plain_place text field key why

abbrev pub unknown_in : Option ℕ → Wanted
unknown_in None = UnknownTop
unknown_in (Some index) = UnknownField

-- the first line of an unknown key, with its number
unfoldable pub unknown_line : List ℕ → Option ℕ → Option (ℕ × List ℕ)
unknown_line text field =
    if has_long_text text then None else line_where (unknown_in field) 1 (tables_before field) (lines_in text)

-- ---- the words

abbrev pub known_words : Option ℕ → List (List ℕ)
known_words None = top_words
known_words (Some index) = field_words

abbrev pub word_or : Option (List ℕ) → List ℕ → List ℕ
word_or None line = line
word_or (Some word) line = word

abbrev pub word_of : List ℕ → List ℕ
word_of line = word_or (key_of line) line

-- up to 64 bytes of it
unfoldable pub unknown_word : List ℕ → List ℕ
unknown_word line = front_of 64 (word_of line)

-- an unknown key, and the nearest known one
unfoldable pub unknown_key_text : Option ℕ → List ℕ → List ℕ
unknown_key_text field word = (codes "unknown key " ++ quoted word) ++ near_text (nearest word (known_words field))

abbrev pub place_or : Place → Place → Place
place_or Whole other = other
place_or place other = place

-- where the key of rows stands, in a layout of a version without rows
abbrev pub rows_place : List ℕ → Option ℕ → Place
rows_place text field = place_or (key_place text field (Key Count)) (key_place text field (Key Down))

abbrev pub lost_words : Place → List ℕ
lost_words Whole = codes "an unknown key"
lost_words place = codes "'count' and 'down' need version = 2"

-- an unknown key whose line is not found: in a field it may be one of rows
abbrev pub lost_key_text : List ℕ → List ℕ → Option ℕ → List ℕ
lost_key_text name text field = head_text name (rows_place text field) ++ lost_words (rows_place text field)

abbrev pub unknown_by : List ℕ → List ℕ → Option ℕ → Option (ℕ × List ℕ) → List ℕ
unknown_by name text field None = lost_key_text name text field
unknown_by name text field (Some found) = line_head name found.0 ++ unknown_key_text field (unknown_word found.1)

abbrev pub unknown_text : List ℕ → List ℕ → Option ℕ → List ℕ
unknown_text name text field = unknown_by name text field (unknown_line text field)

abbrev pub known_text : List ℕ → Place → LayoutKey → Why → List ℕ
known_text name place key why = head_text name place ++ key_reason key why

abbrev pub which_text : List ℕ → List ℕ → Option ℕ → Option LayoutKey → Why → List ℕ
which_text name text field None why = []
which_text name text field (Some Unknown) why = unknown_text name text field
which_text name text field (Some key) why = known_text name (known_place text field key why) key why

-- the input's name, the place, and why the key is refused
abbrev pub key_fault_text : List ℕ → List ℕ → LayoutFault → List ℕ
key_fault_text name text fault = which_text name text fault.field fault.which fault.why
