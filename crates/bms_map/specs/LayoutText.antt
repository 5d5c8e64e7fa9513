-- The layout of a map, as text.
use Rattle.std.specs.Prelude.{ℕ, ◌+◌, ◌-◌, ◌/◌, ◌%◌, ◌*◌, ◌^◌, min, Bool, true, false, ◌&&◌, ◌==◌, nat_le, List, [], ◌++◌, map, length, codes, if◌then◌else◌}
use Rattle.std.specs.Fmt.{decimal}
use Rattle.std.specs.List.{flat_map}
use Rattle.bms_source.specs.Printed.{printed_codes}
use Rattle.bms_map.specs.Maps.{Shown, Sheet, default_rows}
use Rattle.bms_map.specs.Overlaps.{is_input, is_declared}

-- a character of a layout name: letters in lower case, @, # and $ as _
abbrev pub lower : ℕ → ℕ
lower code =
    if nat_le 0x41 code && nat_le code 0x5A then code + 32 else (if code == 0x40 then 0x5F else (if code == 0x23 then 0x5F else (if code == 0x24 then 0x5F else code)))

-- the number of an occurrence, which the only one hasn't
abbrev pub numbered : List ℕ → List ℕ → ℕ → List ℕ
numbered before behind occurrence = if occurrence == 0 then [] else before ++ (decimal occurrence ++ behind)

abbrev pub named_line : List ℕ → ℕ → List ℕ
named_line label occurrence = codes "\n[[field]]\nname = \"" ++ (printed_codes (map lower label) ++ (numbered (codes "-") [] occurrence ++ codes "\"\n"))

abbrev pub name_line : Shown → List ℕ
name_line field = named_line field.label field.occurrence

-- the first character, which may stand round the screen's end, counted from 0
abbrev pub place_of : Sheet → Shown → ℕ
place_of map field = min (field.cell + 1) (2 ^ 32 - 1) % (map.area.screen.rows * map.area.screen.cols)

abbrev pub place_lines : Sheet → Shown → List ℕ
place_lines map field =
    codes "row = " ++ (decimal (place_of map field / map.area.screen.cols + 1) ++ (codes "\ncol = " ++ (decimal (place_of map field % map.area.screen.cols + 1)
    ++ (codes "\nlength = " ++ (decimal field.length ++ codes "\n")))))

abbrev pub kind_word : Bool → List ℕ
kind_word true = codes "input"
kind_word false = codes "fixed"

-- what people call a field: its label, with the number of an occurrence in parentheses, or else its line and column in the map
abbrev pub label_text : Shown → List ℕ
label_text field =
    if length field.label == 0 then codes "(" ++ (decimal field.row ++ (codes "," ++ (decimal field.column ++ codes ")")))
    else printed_codes field.label ++ numbered (codes "(") (codes ")") field.occurrence

abbrev pub kind_line : Shown → List ℕ
kind_line field = codes "kind = \"" ++ (kind_word (is_input field) ++ codes "\"\n")

-- what people call the field, and the line of its macro
abbrev pub comment : Shown → List ℕ
comment field = codes "# " ++ (label_text field ++ (codes ", line " ++ (decimal field.line ++ codes "\n")))

abbrev pub entry_text : Sheet → Shown → List ℕ
entry_text map field = name_line field ++ (place_lines map field ++ (kind_line field ++ comment field))

abbrev pub screen_word : Bool → List ℕ
screen_word true = codes "default"
screen_word false = codes "alternate"

abbrev pub size_lines : Sheet → List ℕ
size_lines map =
    codes "default = \"24x80\"\nalternate = \"" ++ (decimal map.area.screen.rows ++ (codes "x" ++ (decimal map.area.screen.cols ++ codes "\"\n")))

abbrev pub screen_line : Bool → List ℕ
screen_line is_default = codes "screen = \"" ++ (screen_word is_default ++ codes "\"\n")

abbrev pub top_lines : Sheet → List ℕ
top_lines map = size_lines map ++ screen_line (map.area.screen.rows == default_rows)

abbrev pub entry_if : Sheet → Shown → List ℕ
entry_if map field = if is_declared field then entry_text map field else []

-- the sizes, and an entry for each field that the program reads
abbrev pub layout_text : Sheet → List ℕ
layout_text map = top_lines map ++ flat_map (entry_if map) map.fields
