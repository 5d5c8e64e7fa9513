-- What is written on a drawing, and below it: names of entries, frames and numbers of findings, and a list.
use Rattle.std.specs.Prelude.{ℕ, ◌+◌, ◌-◌, ◌*◌, ◌&&◌, nat_lt, min, max, Bool, true, false, Option, Some, None, List, [], ◌∷◌, ◌++◌, codes, length, if◌then◌else◌}
use Rattle.std.specs.Fmt.{decimal}
use Rattle.std.specs.List.{flat_map, range_with_len}
use Rattle.ds_codec.specs.declared.size.Size.{Size}
use Rattle.ds_screen.specs.Picture.{Picture}
use Rattle.scr_layout.specs.Entry.{Declared}
use Rattle.scr_check.specs.declared.finding.Finding.{Finding}
use Rattle.scr_check.specs.FindingText.{finding_text}
use Rattle.cli_pictures.specs.declared.marks.Frame.{Frame}
use Rattle.cli_pictures.specs.declared.room.Stand.{Stand}
use Rattle.cli_pictures.specs.declared.room.Stand.TheVariants.{Above, Behind, Numbered}
use Rattle.cli_pictures.specs.Marks.{place_of, marked_length, begins_part, part_frame, screen_frame}
use Rattle.cli_pictures.specs.Room.{behind, stand_of}
use Rattle.cli_pictures.specs.Svg.{left_of, top_of, escaped}

-- ---- texts

-- a byte as it is written in XML; a question mark stands for one that is no ASCII
unfoldable pub escaped_byte : ℕ → List ℕ
escaped_byte byte = if nat_lt byte 128 then escaped byte else codes "?"

abbrev pub escaped_text : List ℕ → List ℕ
escaped_text bytes = flat_map escaped_byte bytes

-- yellow names, red frames that cover nothing, and numbers that end before their fields
unfoldable pub notes_style : List ℕ
notes_style =
    codes "<style>\ntext.name { fill: yellow; font: 8px monospace }\ntext.number { fill: yellow; font: 7px monospace; text-anchor: end }\ntext.mark { fill: #f66; font: 7px monospace; text-anchor: end }\ntext.list { fill: yellow; font: 12px monospace }\ntspan.finding { fill: #f66 }\nrect.finding { fill: none; stroke: red; pointer-events: all }\n</style>\n"

-- a text of a class on a base line that begins or ends there
unfoldable pub note_begin : List ℕ → ℕ → ℕ → List ℕ
note_begin class x y = codes "<text class=\"" ++ (class ++ (codes "\" x=\"" ++ (decimal x ++ (codes "\" y=\"" ++ (decimal y ++ codes "\">")))))

abbrev pub note : List ℕ → ℕ → ℕ → List ℕ → List ℕ
note class x y words = note_begin class x y ++ (escaped_text words ++ codes "</text>\n")

-- ---- the names of entries

-- the name of an entry above or behind its field, or its number before it
abbrev pub name_element : ℕ → Stand → ℕ → Declared → List ℕ
name_element cols Above number entry = note (codes "name") (left_of cols entry.place) (top_of cols entry.place - 3) entry.name
name_element cols Behind number entry = note (codes "name") (left_of cols (behind entry)) (top_of cols (behind entry) + 14) entry.name
name_element cols Numbered number entry = note (codes "number") (left_of cols entry.place) (top_of cols entry.place + 7) (decimal number)

-- the same, where its first cell is on the screen
unfoldable pub name_on : Picture → List Declared → ℕ → Declared → List ℕ
name_on v all number entry =
    if nat_lt entry.place (length v.cells) then name_element v.size.cols (stand_of v all entry) number entry else []

abbrev pub names_from : Picture → List Declared → ℕ → List Declared → List ℕ
names_from v all number [] = []
names_from v all number (entry ∷ entries) = name_on v all number entry ++ names_from v all (number + 1) entries

-- ---- the frames of findings

unfoldable pub frame_begin : Frame → List ℕ
frame_begin frame =
    codes "<rect class=\"finding\" x=\"" ++ (decimal frame.left ++ (codes "\" y=\"" ++ (decimal frame.top ++ (codes "\" width=\"" ++ (decimal frame.width
    ++ (codes "\" height=\"" ++ (decimal frame.height ++ codes "\"><title>")))))))

unfoldable pub frame_end : List ℕ
frame_end = codes "</title></rect>\n"

-- a frame that tells some words
abbrev pub frame_element : Frame → List ℕ → List ℕ
frame_element frame words = frame_begin frame ++ (escaped_text words ++ frame_end)

-- round each part of a row that so many cells from p on take
unfoldable pub part_element : Picture → ℕ → ℕ → List ℕ → ℕ → List ℕ
part_element v p count words steps = if begins_part v p steps then frame_element (part_frame v p count steps) words else []

abbrev pub parts : Picture → ℕ → ℕ → List ℕ → List ℕ
parts v p count words = flat_map (part_element v p count words) (range_with_len 0 count)

-- how a finding is known in the drawing and in the list
abbrev pub mark_words : ℕ → List ℕ
mark_words number = codes "!" ++ decimal number

abbrev pub mark : ℕ → ℕ → ℕ → List ℕ
mark cols p number = note (codes "mark") (left_of cols p) (top_of cols p + 18) (mark_words number)

-- a place on the screen
abbrev pub place_shown : Picture → Option ℕ → Option ℕ
place_shown v None = None
place_shown v (Some p) = if nat_lt p (length v.cells) then Some p else None

-- frames round the cells of a field, or round the screen where there are none on it, and the finding's number before them
abbrev pub marked_at : Picture → List Declared → ℕ → Finding → Option ℕ → List ℕ
marked_at v entries number finding None = frame_element (screen_frame v.size) (finding_text entries finding) ++ mark v.size.cols 0 number
marked_at v entries number finding (Some p) =
    parts v p (marked_length v.cells entries finding p) (finding_text entries finding) ++ mark v.size.cols p number

unfoldable pub finding_element : Picture → List Declared → ℕ → Finding → List ℕ
finding_element v entries number finding = marked_at v entries number finding (place_shown v (place_of entries finding))

abbrev pub findings_from : Picture → List Declared → ℕ → List Finding → List ℕ
findings_from v entries number [] = []
findings_from v entries number (finding ∷ findings) = finding_element v entries number finding ++ findings_from v entries (number + 1) findings

-- ---- the list

abbrev pub is_numbered : Stand → Bool
is_numbered Above = false
is_numbered Behind = false
is_numbered Numbered = true

abbrev pub is_listed : Picture → List Declared → Declared → Bool
is_listed v all entry = nat_lt entry.place (length v.cells) && is_numbered (stand_of v all entry)

-- the entries whose numbers stand in the drawing, each by its number and its name
abbrev pub names_listed : Picture → List Declared → ℕ → List Declared → List (List ℕ)
names_listed v all number [] = []
names_listed v all number (entry ∷ entries) =
    if is_listed v all entry then (decimal number ++ (codes " " ++ entry.name)) ∷ names_listed v all (number + 1) entries
    else names_listed v all (number + 1) entries

-- the findings, each by its number and its words
abbrev pub findings_listed : List Declared → ℕ → List Finding → List (List ℕ)
findings_listed entries number [] = []
findings_listed entries number (finding ∷ findings) =
    (mark_words number ++ (codes " " ++ finding_text entries finding)) ∷ findings_listed entries (number + 1) findings

-- a line of the list, below the one before
unfoldable pub line_begin : List ℕ → List ℕ
line_begin class = codes "<tspan" ++ (class ++ codes " x=\"10\" dy=\"16\">")

abbrev pub list_line : List ℕ → List ℕ → List ℕ
list_line class words = line_begin class ++ (escaped_text words ++ codes "</tspan>\n")

abbrev pub list_lines : List ℕ → List (List ℕ) → List ℕ
list_lines class lines = flat_map (list_line class) lines

unfoldable pub list_begin : ℕ → List ℕ
list_begin y = codes "<text class=\"list\" x=\"10\" y=\"" ++ (decimal y ++ codes "\">\n")

-- one text, whose lines begin below the screen
abbrev pub list_element : Size → List (List ℕ) → List (List ℕ) → List ℕ
list_element size names findings =
    list_begin (20 * size.rows + 16) ++ (list_lines [] names ++ (list_lines (codes " class=\"finding\"") findings ++ codes "</text>\n"))

-- how long the longest is, 1,000 at most
abbrev pub widest : List (List ℕ) → ℕ
widest [] = 0
widest (line ∷ lines) = max (min (length line) 1000) (widest lines)

-- how wide and how high a drawing is that has this list
abbrev pub wide : Size → List (List ℕ) → List (List ℕ) → ℕ
wide size names findings = max (10 * size.cols + 20) (8 * max (widest names) (widest findings) + 20)

abbrev pub high : Size → List (List ℕ) → List (List ℕ) → ℕ
high size names findings = 20 * size.rows + 20 + 16 * (min (length names) 100000 + min (length findings) 100000)
