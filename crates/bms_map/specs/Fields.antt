-- What is wrong with a field, and what it is.
use Rattle.std.specs.Prelude.{ℕ, ◌+◌, ◌-◌, ◌*◌, Bool, false, not, ◌&&◌, ◌||◌, ◌==◌, nat_le, nat_lt, List, [], ◌∷◌, ◌++◌, map, codes, length, Option, Some, None, Result, Ok, Err, if◌then◌else◌}
use Rattle.std.specs.List.{list_any, range_with_len}
use Rattle.bms_source.specs.declared.letter.Letter.{Letter}
use Rattle.bms_source.specs.declared.refusal.Why.TheVariants.{BadLabel, MissingLabel, BadValue, Conflict, MissingOperand, NameTwice, PosOutside, PosTwice, TooLong, BadGroup, TooMuch}
use Rattle.bms_source.specs.Statement.{Said}
use Rattle.bms_source.specs.Told.{Told, told_at, told_with, place_at, ◌>>=◌}
use Rattle.bms_source.specs.Words.{upper_word, is_symbol}
use Rattle.bms_map.specs.declared.values.Pos.{Pos}
use Rattle.bms_map.specs.declared.values.Pos.TheVariants.{Pair, Number}
use Rattle.bms_map.specs.declared.macros.TheConstants.{MOST_ATTRIBUTES, MOST_BYTES}
use Rattle.bms_map.specs.Values.{if_within, ◌>>?◌}
use Rattle.bms_map.specs.Pictures.{length_of}
use Rattle.bms_map.specs.Operands.{Given}
use Rattle.bms_map.specs.Lookup.{operand_at, value_at, is_given, told_at_operand, told_name, pos_in, length_in, occurs_in, group_in, attribute_in, cursor_in, looks_in, looks_or, initial_in, later_of}
use Rattle.bms_map.specs.LayoutText.{lower}
use Rattle.bms_map.specs.Maps.{Ground}
use Rattle.bms_map.specs.Overlaps.{cell_in, last_of}
use Rattle.bms_map.specs.Entries.{Entry, Section, index_at, label_name, names_of, attributes_of, occurrence_size, later_size, text_of, size_of, same}

abbrev pub needed : {A : Type 0} → Told → Option A → Result A Told
needed told None = Err told
needed told (Some value) = Ok value

-- an operand that is missing is told at the operation
abbrev pub missing : List ℕ → Said → Told
missing name said = told_with MissingOperand name said.place

abbrev pub unless : Bool → Told → Result (Unit {0}) Told
unless bad told = if bad then Err told else Ok tt

-- ---- its length

abbrev pub length_by : Said → List Given → Option ℕ → Option (List Letter) → Option (List Letter) → Result ℕ Told
length_by said operands (Some length) inside outside = Ok length
length_by said operands None (Some picture) outside = needed (told_at_operand BadValue (codes "PICIN") operands) (length_of picture)
length_by said operands None None (Some picture) = needed (told_at_operand BadValue (codes "PICOUT") operands) (length_of picture)
length_by said operands None None None = Err (missing (codes "LENGTH") said)

-- LENGTH, or the positions of the picture, of PICIN where both stand
abbrev pub field_length : Said → List Given → Result ℕ Told
field_length said operands =
    length_by said operands (length_in operands) (value_at (codes "PICIN") operands) (value_at (codes "PICOUT") operands)

-- ---- its label

-- a symbol of at most so many characters, in upper case
abbrev pub label_of : Said → ℕ → Result (List ℕ) Told
label_of said most =
    if is_symbol said.label && nat_le (length said.label) most then Ok (upper_word said.label) else Err (told_at BadLabel (place_at said.line 1))

abbrev pub needed_label : Said → ℕ → Result (List ℕ) Told
needed_label said most = if length said.label == 0 then Err (told_at MissingLabel said.place) else label_of said most

-- it may be absent, but where OCCURS or GRPNAME stands
abbrev pub field_label : Said → List Given → Result (List ℕ) Told
field_label said operands =
    if is_given (operand_at (codes "OCCURS") operands) || is_given (operand_at (codes "GRPNAME") operands) then needed_label said 30
    else (if length said.label == 0 then Ok [] else label_of said 30)

-- ---- operands that exclude each other, and a text that is too long

abbrev pub unless_later : List Given → Option (List ℕ) → Result (Unit {0}) Told
unless_later operands None = Ok tt
unless_later operands (Some name) = Err (told_at_operand Conflict name operands)

unfoldable pub judge_conflicts : Said → List Given → ℕ → Result (Unit {0}) Told
judge_conflicts said operands length_ = do
  text ← unless_later operands (later_of (codes "INITIAL") (codes "XINIT") operands)
  name ← unless_later operands (later_of (codes "OCCURS") (codes "GRPNAME") operands)
  unless ((length_ == 0) && not (length said.label == 0)) (told_at_operand Conflict (codes "LENGTH") operands)

abbrev pub text_name : List Given → List ℕ
text_name operands = if is_given (operand_at (codes "INITIAL") operands) then codes "INITIAL" else codes "XINIT"

abbrev pub judge_text : List Given → Option (List ℕ) → ℕ → Result (Unit {0}) Told
judge_text operands None length_ = Ok tt
judge_text operands (Some text) length_ = unless (nat_lt length_ (length text)) (told_at_operand TooLong (text_name operands) operands)

-- ---- its place

abbrev pub side_in : ℕ → ℕ → Option ℕ
side_in number most = if_within 1 most number >>? λ n. Some (n - 1)

abbrev pub if_inside : ℕ → ℕ → Option ℕ
if_inside places index = if nat_lt index places then Some index else None

-- a line and a column count from 1, a number from 0
abbrev pub index_of : Ground → Pos → Option ℕ
index_of area (Pair line column) = side_in line area.lines >>? λ l. side_in column area.columns >>? λ c. Some (l * area.columns + c)
index_of area (Number index) = if_inside (area.lines * area.columns) index

abbrev pub occurs_or : Option ℕ → ℕ
occurs_or None = 1
occurs_or (Some n) = n

-- the place of its last occurrence is in the map too
abbrev pub with_room : Ground → ℕ → ℕ → ℕ → Option ℕ
with_room area length_ occurs index = if_inside (area.lines * area.columns) (index + (occurs - 1) * (length_ + 1)) >>? λ last. Some index

abbrev pub place_of : Ground → List Given → ℕ → Option ℕ
place_of area operands length_ = pos_in operands >>? index_of area >>? with_room area length_ (occurs_or (occurs_in operands))

abbrev pub judged_place : Ground → List Given → ℕ → Result ℕ Told
judged_place area operands length_ = needed (told_at_operand PosOutside (codes "POS") operands) (place_of area operands length_)

-- ---- its name

-- the characters of the number of the last occurrence, with a hyphen
abbrev pub digits_for : ℕ → ℕ
digits_for occurs =
    if nat_lt occurs 2 then 0 else (if nat_lt occurs 10 then 2 else (if nat_lt occurs 100 then 3 else (if nat_lt occurs 1000 then 4 else 5)))

-- the longest layout name has at most 32 characters
abbrev pub is_short : List ℕ → ℕ → Bool
is_short label occurs = nat_le (length label + digits_for occurs) 32

abbrev pub is_taken : List (List ℕ) → List ℕ → Bool
is_taken names name = list_any (same name) names

unfoldable pub judge_name : Said → List Entry → List ℕ → ℕ → Result (Unit {0}) Told
judge_name said entries label occurs = do
  short ← unless (not (is_short label occurs)) (told_at BadLabel (place_at said.line 1))
  unless (not (length label == 0) && is_taken (names_of entries) (map lower label)) (told_with NameTwice label (place_at said.line 1))

-- ---- its group

abbrev pub last_entry : List Entry → Option Entry
last_entry [] = None
last_entry (entry ∷ []) = Some entry
last_entry (entry ∷ other ∷ entries) = last_entry (other ∷ entries)

abbrev pub same_group : Option (List ℕ) → Option (List ℕ) → Bool
same_group None other = false
same_group (Some group) None = false
same_group (Some group) (Some other) = same group other

-- the field before it has the same GRPNAME
abbrev pub goes_on : Option Entry → Option (List ℕ) → Bool
goes_on None group = false
goes_on (Some before) group = same_group before.group group

-- the position of the last character
abbrev pub end_in : Ground → Entry → ℕ
end_in area entry = cell_in area entry.index + entry.length

abbrev pub follows : Ground → Option Entry → Entry → Bool
follows area None entry = false
follows area (Some before) entry = cell_in area entry.index == end_in area before

abbrev pub too_much : Said → Told
too_much said = told_at TooMuch said.place

abbrev pub bad_group : List Given → Told
bad_group operands = told_at_operand BadGroup (codes "GRPNAME") operands

abbrev pub judge_end : Ground → List Given → Entry → Result (Unit {0}) Told
judge_end area operands entry = unless (nat_lt (last_of area) (end_in area entry)) (bad_group operands)

-- a later field of a group: at the last position of the field before it, in the map, and with room for its text
unfoldable pub judge_later : Section → Said → List Given → Entry → Result (Unit {0}) Told
judge_later section said operands entry = do
  near ← unless (not (follows section.area (last_entry section.entries) entry)) (bad_group operands)
  inside ← judge_end section.area operands entry
  unless (nat_lt MOST_BYTES (size_of section.entries + later_size (length (text_of entry)))) (too_much said)

-- an occurrence: no attribute stands there, there is room for one more, and for its bytes
unfoldable pub judge_occurrence : Section → Said → List Given → Entry → ℕ → Result (Unit {0}) Told
judge_occurrence section said operands entry k = do
  free ← unless (list_any (λ cell. cell == cell_in section.area (index_at entry k)) (attributes_of section.area section.entries)) (told_at_operand PosTwice (codes "POS") operands)
  few ← unless (nat_le MOST_ATTRIBUTES (length (attributes_of section.area section.entries) + k)) (too_much said)
  unless (nat_lt MOST_BYTES (size_of section.entries + (k + 1) * occurrence_size entry)) (too_much said)

abbrev pub judge_each : (ℕ → Result (Unit {0}) Told) → List ℕ → Result (Unit {0}) Told
judge_each judge [] = Ok tt
judge_each judge (k ∷ ks) = judge k >>= λ good. judge_each judge ks

abbrev pub judge_all : Section → Said → List Given → Entry → Result (Unit {0}) Told
judge_all section said operands entry = judge_each (judge_occurrence section said operands entry) (range_with_len 0 entry.occurs)

-- the first field of a group has a new name too
abbrev pub judge_group : Section → List Given → Entry → Option (List ℕ) → Result (Unit {0}) Told
judge_group section operands entry None = Ok tt
judge_group section operands entry (Some group) = do
  new ← unless (is_taken (names_of section.entries ++ label_name entry.label) (map lower group)) (told_name NameTwice (codes "GRPNAME") group operands)
  judge_end section.area operands entry

abbrev pub judge_first : Section → Said → List Given → Entry → Result (Unit {0}) Told
judge_first section said operands entry = judge_group section operands entry entry.group >>= λ good. judge_all section said operands entry

abbrev pub judge_entry : Section → Said → List Given → Entry → Result (Unit {0}) Told
judge_entry section said operands entry =
    if entry.is_later then judge_later section said operands entry else judge_first section said operands entry

abbrev pub judged_entry : Section → Said → List Given → Entry → Result Entry Told
judged_entry section said operands entry = judge_entry section said operands entry >>= λ good. Ok entry

abbrev pub entry_of : Section → Said → List Given → List ℕ → ℕ → ℕ → Entry
entry_of section said operands label length_ index =
    record {
      label = label;
      group = group_in operands;
      is_later = goes_on (last_entry section.entries) (group_in operands);
      index = index;
      length = length_;
      occurs = occurs_or (occurs_in operands);
      text = initial_in operands;
      attribute = attribute_in operands;
      has_cursor = cursor_in operands;
      looks = looks_or (looks_in operands) section.looks;
      line = said.line;
    }

-- the field of a DFHMDF of this length, behind the others of its map; or the first fault of it
unfoldable pub field_of : Section → Said → List Given → ℕ → Result Entry Told
field_of section said operands length_ = do
  label ← field_label said operands
  alone ← judge_conflicts said operands length_
  short ← judge_text operands (initial_in operands) length_
  index ← judged_place section.area operands length_
  named ← judge_name said section.entries label (occurs_or (occurs_in operands))
  judged_entry section said operands (entry_of section said operands label length_ index)
