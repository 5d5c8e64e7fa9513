-- A screen as one line of JSON.
use Rattle.std.specs.Prelude.{ℕ, ◌*◌, List, [], ◌∷◌, ◌++◌, codes, length, map, if◌then◌else◌}
use Rattle.std.specs.List.{flat_map, range_with_len}
use Rattle.ds_codec.specs.declared.cell.Cell.{Cell}
use Rattle.ds_codec.specs.Attribute.{is_protected, is_numeric, is_hidden, is_intensified, is_modified}
use Rattle.ds_screen.specs.declared.field.FieldAt.{FieldAt}
use Rattle.ds_screen.specs.Picture.{Picture, cell_at}
use Rattle.ds_screen.specs.Fields.{fields_of}
use Rattle.ds_screen.specs.Shown.{printed_row}
use Rattle.order_lines.specs.Print.{hex_byte}
use Rattle.serde_json.specs.Data.{Data, boolean, number, unsigned, string, array, object, member, no_members}
use Rattle.serde_json.specs.View.{items_of}
use Rattle.serde_json.specs.Written.{compact_text}
use Rattle.cli_commands.specs.Screen.{lock_word}
use Rattle.cli_pictures.specs.Codes.{codes_on, characters_on, is_alternate}

abbrev pub count : ℕ → Data
count n = number (unsigned n)

-- of a field also its characters and their codes: so many cells as it has, from its place on
abbrev pub field_data : Picture → FieldAt → Data
field_data v field =
    object (member (codes "at") (count field.at) (member (codes "attribute") (string (hex_byte field.attr))
    (member (codes "characters") (string (characters_on v.cells field.place field.length))
    (member (codes "codes") (string (codes_on v.cells field.place field.length))
    (member (codes "hidden") (boolean (is_hidden field.attr)) (member (codes "intensified") (boolean (is_intensified field.attr))
    (member (codes "length") (count field.length) (member (codes "modified") (boolean (is_modified field.attr))
    (member (codes "numeric") (boolean (is_numeric field.attr)) (member (codes "place") (count field.place)
    (member (codes "protected") (boolean (is_protected field.attr)) no_members)))))))))))

abbrev pub fields_data : Picture → Data
fields_data v = array (items_of (map (field_data v) (fields_of v.cells)))

-- the rows as `show` prints them
abbrev pub row_data : Picture → ℕ → Data
row_data v row = string (printed_row v row)

abbrev pub rows_data : Picture → Data
rows_data v = array (items_of (map (row_data v) (range_with_len 0 v.size.rows)))

-- the rows by the codes of their cells
abbrev pub code_row_data : Picture → ℕ → Data
code_row_data v row = string (codes_on v.cells (row * v.size.cols) v.size.cols)

abbrev pub code_rows_data : Picture → Data
code_rows_data v = array (items_of (map (code_row_data v) (range_with_len 0 v.size.rows)))

-- of each position at which a character of the alternate set stands, one that a graphic escape comes before, the position
abbrev pub escape_at : List Cell → ℕ → List Data
escape_at cells p = if is_alternate (cell_at cells p) then count p ∷ [] else []

-- in rising order
abbrev pub escapes_data : Picture → Data
escapes_data v = array (items_of (flat_map (escape_at v.cells) (range_with_len 0 (length v.cells))))

-- members stand in the order of their names
unfoldable pub screen_data : Picture → Data
screen_data v =
    object (member (codes "aid") (string (hex_byte v.aid)) (member (codes "codes") (code_rows_data v)
    (member (codes "columns") (count v.size.cols) (member (codes "cursor") (count v.cursor)
    (member (codes "fields") (fields_data v) (member (codes "graphic_escapes") (escapes_data v)
    (member (codes "keyboard") (string (lock_word v.lock)) (member (codes "rows") (count v.size.rows)
    (member (codes "text") (rows_data v) no_members)))))))))

unfoldable pub json_text : Picture → List ℕ
json_text v = compact_text (screen_data v)

abbrev pub json_line : Picture → List ℕ
json_line v = json_text v ++ codes "\n"
