-- The text of a screen, and of what it sends.
use Rattle.std.specs.Prelude.{ℕ, List, ◌++◌, codes}
use Rattle.std.specs.List.{flat_map, range_with_len}
use Rattle.std.specs.Fmt.{decimal}
use Rattle.hex.specs.Hex.{encode_upper}
use Rattle.ds_screen.specs.declared.lock.Lock.{Lock}
use Rattle.ds_screen.specs.declared.lock.Lock.TheVariants.{Free, Waiting, Error}
use Rattle.ds_screen.specs.declared.field.FieldAt.{FieldAt}
use Rattle.ds_screen.specs.Picture.{Picture}
use Rattle.ds_screen.specs.Fields.{fields_of}
use Rattle.ds_screen.specs.Shown.{printed_row}
use Rattle.order_lines.specs.Print.{hex_byte}

abbrev pub lock_word : Lock → List ℕ
lock_word Free = codes "free"
lock_word Waiting = codes "waiting"
lock_word Error = codes "error"

abbrev pub header_line : Picture → List ℕ
header_line v =
    codes "screen " ++ (decimal v.size.rows ++ (codes "x" ++ (decimal v.size.cols ++ (codes " cursor " ++ (decimal v.cursor
    ++ (codes " keyboard " ++ (lock_word v.lock ++ (codes " aid " ++ (hex_byte v.aid ++ codes "\n")))))))))

abbrev pub field_line : FieldAt → List ℕ
field_line field =
    codes "field " ++ (decimal field.at ++ (codes " attr " ++ (hex_byte field.attr ++ (codes " place " ++ (decimal field.place
    ++ (codes " length " ++ (decimal field.length ++ codes "\n")))))))

abbrev pub row_line : Picture → ℕ → List ℕ
row_line v row = codes "|" ++ (printed_row v row ++ codes "|\n")

abbrev pub screen_text : Picture → List ℕ
screen_text v = header_line v ++ (flat_map field_line (fields_of v.cells) ++ flat_map (row_line v) (range_with_len 0 v.size.rows))

-- a word and the bytes that a terminal sends
abbrev pub sent_line : List ℕ → List ℕ → List ℕ
sent_line word bytes = word ++ (encode_upper bytes ++ codes "\n")
