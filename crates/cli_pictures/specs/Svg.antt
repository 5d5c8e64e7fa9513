-- A screen as a drawing in SVG 1.1: a function of its picture. A cell has 10 by 20 units, and round all of them is a margin
-- of 10.
use Rattle.std.specs.Prelude.{ℕ, ◌+◌, ◌-◌, ◌*◌, ◌/◌, ◌%◌, Bool, not, ◌&&◌, ◌||◌, ◌==◌, Option, Some, None, List, [], ◌∷◌, ◌++◌, codes, length, if◌then◌else◌}
use Rattle.std.specs.Fmt.{decimal}
use Rattle.std.specs.List.{flat_map, range_with_len}
use Rattle.ds_codec.specs.declared.cell.Cell.{Cell}
use Rattle.ds_screen.specs.declared.lock.Lock.{Lock}
use Rattle.ds_screen.specs.Picture.{Picture}
use Rattle.ds_screen.specs.Fields.{ruling_bits, is_open}
use Rattle.cli_commands.specs.Screen.{lock_word}
use Rattle.ds_codec.specs.Attribute.{is_intensified}
use Rattle.cli_pictures.specs.Seen.{seen_at, open_length}

-- ---- where things stand

-- the left edge of the cell at a position, and its upper edge
abbrev pub left_of : ℕ → ℕ → ℕ
left_of cols p = 10 * (p % cols) + 10

abbrev pub top_of : ℕ → ℕ → ℕ
top_of cols p = 20 * (p / cols) + 10

-- every position, row by row
abbrev pub places : Picture → List ℕ
places v = range_with_len 0 (length v.cells)

-- ---- what is drawn at a position

-- a character as it is written in XML
unfoldable pub escaped : ℕ → List ℕ
escaped character =
    if character == 38 then codes "&amp;"
    else if character == 60 then codes "&lt;"
    else if character == 62 then codes "&gt;"
    else if character == 34 then codes "&quot;"
    else if character == 39 then codes "&#39;"
    else character ∷ []

abbrev pub class_of : ℕ → List ℕ
class_of bits = if is_intensified bits then codes " class=\"bright\"" else []

-- a character, on a base line 15 units below the upper edge of its cell
unfoldable pub text_element : ℕ → ℕ → ℕ → ℕ → List ℕ
text_element cols p bits character =
    codes "<text" ++ (class_of bits ++ (codes " x=\"" ++ (decimal (left_of cols p) ++ (codes "\" y=\"" ++ (decimal (top_of cols p + 15)
    ++ (codes "\">" ++ (escaped character ++ codes "</text>\n")))))))

-- the text where a character is seen
abbrev pub seen_text : ℕ → ℕ → ℕ → Option ℕ → List ℕ
seen_text cols p bits None = []
seen_text cols p bits (Some character) = text_element cols p bits character

abbrev pub text_at : Picture → ℕ → List ℕ
text_at v p = seen_text v.size.cols p (ruling_bits v.cells p) (seen_at v.cells p)

-- a line under so many cells of a row
unfoldable pub line_element : ℕ → ℕ → ℕ → List ℕ
line_element cols p count =
    codes "<line x1=\"" ++ (decimal (left_of cols p) ++ (codes "\" y1=\"" ++ (decimal (top_of cols p + 18) ++ (codes "\" x2=\""
    ++ (decimal (left_of cols p + 10 * count) ++ (codes "\" y2=\"" ++ (decimal (top_of cols p + 18) ++ codes "\"/>\n")))))))

-- the position may be typed over, and the one before it in its row may not
abbrev pub begins_line : ℕ → List Cell → ℕ → Bool
begins_line cols cells p = is_open cells p && ((p % cols == 0) || not (is_open cells (p - 1)))

-- a line under what may be typed over, from its first position in a row to its last
abbrev pub line_at : Picture → ℕ → List ℕ
line_at v p =
    if begins_line v.size.cols v.cells p
    then line_element v.size.cols p (open_length v.cells p (v.size.cols - p % v.size.cols))
    else []

-- ---- the whole

unfoldable pub size_words : ℕ → ℕ → List ℕ
size_words rows cols = decimal rows ++ (codes "x" ++ decimal cols)

-- rows and columns are counted from 1
unfoldable pub cursor_words : ℕ → ℕ → List ℕ
cursor_words row column = codes ", cursor at row " ++ (decimal row ++ (codes ", column " ++ decimal column))

unfoldable pub keyboard_words : Lock → List ℕ
keyboard_words lock = codes ", keyboard " ++ lock_word lock

unfoldable pub cursor_place : Picture → List ℕ
cursor_place v = cursor_words (v.cursor / v.size.cols + 1) (v.cursor % v.size.cols + 1)

abbrev pub title : Picture → List ℕ
title v = size_words v.size.rows v.size.cols ++ (cursor_place v ++ keyboard_words v.lock)

unfoldable pub title_line : Picture → List ℕ
title_line v = codes "<title>" ++ (title v ++ codes "</title>\n")

-- the root, which says how large the drawing is
unfoldable pub root_line : ℕ → ℕ → List ℕ
root_line width height =
    codes "<svg xmlns=\"http://www.w3.org/2000/svg\" viewBox=\"0 0 " ++ (decimal width ++ (codes " " ++ (decimal height
    ++ (codes "\" width=\"" ++ (decimal width ++ (codes "\" height=\"" ++ (decimal height ++ codes "\">\n")))))))

-- green on black, what is intensified and the cursor white
unfoldable pub style_lines : List ℕ
style_lines =
    codes "<style>\ntext { fill: lime; font: 16px monospace }\ntext.bright { fill: white }\nline { stroke: lime }\nrect.cursor { fill: none; stroke: white }\n</style>\n<rect width=\"100%\" height=\"100%\"/>\n"

-- the head of a drawing that is so wide and so high
abbrev pub sized_head : Picture → ℕ → ℕ → List ℕ
sized_head v width height = root_line width height ++ (title_line v ++ style_lines)

abbrev pub head_lines : Picture → List ℕ
head_lines v = sized_head v (10 * v.size.cols + 20) (20 * v.size.rows + 20)

-- a hollow rectangle round a cell
unfoldable pub box_element : ℕ → ℕ → List ℕ
box_element x y =
    codes "<rect class=\"cursor\" x=\"" ++ (decimal x ++ (codes "\" y=\"" ++ (decimal y ++ codes "\" width=\"10\" height=\"20\"/>\n")))

abbrev pub cursor_element : ℕ → ℕ → List ℕ
cursor_element cols p = box_element (left_of cols p) (top_of cols p)

unfoldable pub svg_element : Picture → List ℕ
svg_element v =
    head_lines v ++ (flat_map (line_at v) (places v) ++ (flat_map (text_at v) (places v)
    ++ (cursor_element v.size.cols v.cursor ++ codes "</svg>\n")))
