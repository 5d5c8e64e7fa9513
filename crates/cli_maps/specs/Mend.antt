-- What to do about a finding of a map: the change of its source that ends it.
use Rattle.std.specs.Prelude.{ℕ, ◌+◌, ◌-◌, ◌*◌, ◌/◌, ◌%◌, Bool, true, false, ◌&&◌, ◌==◌, nat_le, nat_lt, List, [], ◌++◌, codes, slice_get, Option, Some, None, if◌then◌else◌}
use Rattle.std.specs.Fmt.{decimal}
use Rattle.std.specs.List.{find}
use Rattle.ds_codec.specs.Attribute.{is_protected, is_numeric, is_auto_skip, is_hidden, is_intensified, is_detectable}
use Rattle.bms_map.specs.Maps.{Ground, Sheet, Shown}
use Rattle.bms_map.specs.declared.overlap.Overlap.{Overlap}
use Rattle.bms_map.specs.declared.overlap.Overlap.TheVariants.{Overlaps, PastEnd}
use Rattle.bms_map.specs.LayoutText.{label_text}
use Rattle.scr_layout.specs.Entry.{Declared}
use Rattle.scr_check.specs.declared.finding.Finding.{Finding}
use Rattle.scr_check.specs.declared.finding.Finding.TheVariants.{KeyboardLocked, Unformatted, Undeclared, UndeclaredFixed, Missing, TooLong, EmptyModified}
use Rattle.cli_maps.specs.declared.judged.MapFinding.{MapFinding}
use Rattle.cli_maps.specs.declared.judged.MapFinding.TheVariants.{Overlapping, Found}
use Rattle.cli_maps.specs.declared.mend.Protection.{Protection}
use Rattle.cli_maps.specs.declared.mend.Protection.TheVariants.{Unprotected, Numeric, Protected, Skipped}
use Rattle.cli_maps.specs.declared.mend.Look.{Look}
use Rattle.cli_maps.specs.declared.mend.Look.TheVariants.{Normal, Detectable, Bright, Dark}
use Rattle.cli_maps.specs.Lines.{field_of}

-- ---- places

-- a position of the screen lies on this line and in this column of the map, both counted from 1
abbrev pub is_in : Ground → ℕ → ℕ → Bool
is_in area row column =
    (nat_le area.top row && nat_lt row (area.top + area.lines)) && (nat_le area.left column && nat_lt column (area.left + area.columns))

abbrev pub spot_if : Bool → Ground → ℕ → ℕ → Option (ℕ × ℕ)
spot_if inside area row column = if inside then Some (row - area.top + 1, column - area.left + 1) else None

-- the line and the column of the map at which a position of its screen lies, if it does
abbrev pub spot_in : Ground → ℕ → Option (ℕ × ℕ)
spot_in area cell = spot_if (is_in area (cell / area.screen.cols) (cell % area.screen.cols)) area (cell / area.screen.cols) (cell % area.screen.cols)

-- the position after a field's last character, round the screen's end
abbrev pub after_field : Sheet → Shown → ℕ
after_field map field = (field.cell + field.length + 1) % (map.area.screen.rows * map.area.screen.cols)

abbrev pub pos_text : ℕ × ℕ → List ℕ
pos_text spot = codes "POS=(" ++ (decimal spot.0 ++ (codes "," ++ (decimal spot.1 ++ codes ")")))

-- ---- attributes

-- what an operator may do in a field
abbrev pub protection_of : ℕ → Protection
protection_of attribute =
    if is_auto_skip attribute then Skipped
    else (if is_protected attribute then Protected else (if is_numeric attribute then Numeric else Unprotected))

-- how a field looks
abbrev pub look_of : ℕ → Look
look_of attribute =
    if is_hidden attribute then Dark
    else (if is_intensified attribute then Bright else (if is_detectable attribute then Detectable else Normal))

-- the protection, as ATTRB says it
abbrev pub protection_words : Protection → List ℕ
protection_words Skipped = codes "ASKIP"
protection_words Protected = codes "PROT"
protection_words Numeric = codes "UNPROT,NUM"
protection_words Unprotected = codes "UNPROT"

-- how it looks, after that
abbrev pub look_words : Look → List ℕ
look_words Dark = codes ",DRK"
look_words Bright = codes ",BRT"
look_words Detectable = codes ",DET"
look_words Normal = []

-- it is said by one word
abbrev pub is_word : Protection → Look → Bool
is_word Numeric look = false
is_word protection Normal = true
is_word protection look = false

-- ATTRB of this protection, of these looks, without FSET
abbrev pub attrb_text : Protection → Look → List ℕ
attrb_text protection look =
    if is_word protection look then codes "ATTRB=" ++ protection_words protection
    else codes "ATTRB=(" ++ (protection_words protection ++ (look_words look ++ codes ")"))

-- ---- what to do

abbrev pub locked_help : List ℕ
locked_help = codes "write CTRL=FREEKB at DFHMDI or DFHMSD; where programs say FREEKB with each SEND MAP, check with --freekb"

abbrev pub unformatted_help : List ℕ
unformatted_help = codes "write its fields, each by a DFHMDF"

abbrev pub missing_help : List ℕ
missing_help = codes "correct POS or LENGTH of the field that covers its attribute, or follows it at once"

-- a stopper alone has no label
abbrev pub label_help : Shown → List ℕ
label_help field = if field.length == 0 then [] else codes "give it a label, or "

abbrev pub undeclared_help : Shown → List ℕ
undeclared_help field = label_help field ++ (codes "protect it by " ++ attrb_text Skipped (look_of field.attribute))

abbrev pub unset_of : ℕ → List ℕ
unset_of attribute = codes "take FSET away by " ++ attrb_text (protection_of attribute) (look_of attribute)

abbrev pub unset_help : Shown → List ℕ
unset_help field = unset_of field.attribute

abbrev pub undeclared_fixed_help : Shown → List ℕ
undeclared_fixed_help field = label_help field ++ unset_help field

-- the macro that ends a field
abbrev pub stopper_help : ℕ × ℕ → List ℕ
stopper_help spot = codes "end it by a stopper:\n         DFHMDF " ++ (pos_text spot ++ codes ",LENGTH=0,ATTRB=ASKIP")

-- a stopper stands there
abbrev pub is_stopper_at : ℕ → Shown → Bool
is_stopper_at cell field = (field.cell == cell) && (field.length == 0)

abbrev pub stopper_at : Sheet → ℕ → Option Shown
stopper_at map cell = find (is_stopper_at cell) map.fields

abbrev pub moved_of : ℕ × ℕ → ℕ → List ℕ
moved_of spot line = codes "write " ++ (pos_text spot ++ (codes " at the stopper of line " ++ (decimal line ++ codes ", which stands a column too far")))

abbrev pub moved_help : ℕ × ℕ → Shown → List ℕ
moved_help spot stopper = moved_of spot stopper.line

abbrev pub end_help : ℕ × ℕ → Option Shown → List ℕ
end_help spot None = stopper_help spot
end_help spot (Some stopper) = moved_help spot stopper

-- it ends where the map has this place, before a stopper a column too far if there is one
abbrev pub too_long_help : Sheet → Shown → Option (ℕ × ℕ) → List ℕ
too_long_help map field None = codes "no place of the map comes after it for a stopper: write a smaller LENGTH, or a larger SIZE"
too_long_help map field (Some spot) = end_help spot (stopper_at map (after_field map field + 1))

-- to the first place after another field, where the map has it
abbrev pub behind : Option (ℕ × ℕ) → List ℕ
behind None = []
behind (Some spot) = codes " to " ++ (pos_text spot ++ codes " or behind")

abbrev pub moved_behind : Sheet → Shown → List ℕ
moved_behind map other = codes "move it" ++ (behind (spot_in map.area (after_field map other)) ++ (codes ", or write a smaller LENGTH of " ++ label_text other))

abbrev pub overlap_help : Sheet → Option Shown → List ℕ
overlap_help map None = codes "move it"
overlap_help map (Some other) = moved_behind map other

abbrev pub past_help : ℕ → List ℕ
past_help by = codes "write a LENGTH that is smaller by " ++ (decimal by ++ codes ", or a larger SIZE")

abbrev pub overlaps_help : Sheet → Overlap → List ℕ
overlaps_help map (Overlaps index other) = overlap_help map (slice_get map.fields other)
overlaps_help map (PastEnd index by) = past_help by

abbrev pub field_help : Sheet → Shown → Finding → Option (List ℕ)
field_help map field (Undeclared place demo) = Some (undeclared_help field)
field_help map field (UndeclaredFixed place demo) = Some (undeclared_fixed_help field)
field_help map field (Missing index) = Some missing_help
field_help map field (TooLong found) = Some (too_long_help map field (spot_in map.area (after_field map field)))
field_help map field (EmptyModified place) = Some (unset_help field)
field_help map field finding = None

abbrev pub finding_help : Sheet → Option Shown → Finding → Option (List ℕ)
finding_help map field KeyboardLocked = Some locked_help
finding_help map field Unformatted = Some unformatted_help
finding_help map None finding = None
finding_help map (Some field) finding = field_help map field finding

-- the change that ends a finding
abbrev pub help_of : Sheet → List Declared → MapFinding → Option (List ℕ)
help_of map entries (Overlapping overlap) = Some (overlaps_help map overlap)
help_of map entries (Found finding) = finding_help map (field_of map entries (Found finding)) finding
