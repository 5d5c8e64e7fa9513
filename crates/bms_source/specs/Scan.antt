-- Strings and parentheses among the letters of operands.
use Rattle.std.specs.Prelude.{ℕ, ◌+◌, ◌-◌, Bool, false, not, ◌&&◌, ◌==◌, List, [], ◌∷◌, Option, Some, None, if◌then◌else◌}
use Rattle.bms_source.specs.declared.letter.Letter.{Letter}
use Rattle.bms_source.specs.declared.letter.Place.{Place}
use Rattle.bms_source.specs.declared.scan.Quote.{Quote}
use Rattle.bms_source.specs.declared.scan.Quote.TheVariants.{Outside, Inside, Behind}
use Rattle.bms_source.specs.declared.scan.Depth.{Depth}

-- an apostrophe right behind the one that ended a string goes on with that string
abbrev pub quote_at : Quote → Place → Quote
quote_at Outside place = Inside place
quote_at (Inside begin) place = Behind begin
quote_at (Behind begin) place = Inside begin

abbrev pub quote_past : Quote → Quote
quote_past Outside = Outside
quote_past (Inside begin) = Inside begin
quote_past (Behind begin) = Outside

abbrev pub quote_after : Quote → Letter → Quote
quote_after quote letter = if letter.code == 39 then quote_at quote letter.place else quote_past quote

abbrev pub quote_end : Quote → List Letter → Quote
quote_end quote [] = quote
quote_end quote (letter ∷ letters) = quote_end (quote_after quote letter) letters

abbrev pub inside_of : Quote → Option Place
inside_of Outside = None
inside_of (Inside begin) = Some begin
inside_of (Behind begin) = None

-- where the string begins that is open at the end
abbrev pub open_string : List Letter → Option Place
open_string letters = inside_of (quote_end Outside letters)

-- ---- parentheses outside strings

abbrev pub outside : Depth
outside = record { quoted = false; depth = 0 }

-- one that ends nothing changes nothing
unfoldable pub depth_after : Depth → ℕ → Depth
depth_after depth c =
    if c == 39 then record depth { quoted = not depth.quoted }
    else (if depth.quoted then depth
    else (if c == 40 then record depth { depth = depth.depth + 1 }
    else (if c == 41 then record depth { depth = depth.depth - 1 }
    else depth)))

-- a character is this one, outside strings and parentheses
abbrev pub is_bare : ℕ → Depth → ℕ → Bool
is_bare code depth c = (c == code) && (not depth.quoted && (depth.depth == 0))

abbrev pub opens : Depth → Depth → Bool
opens depth next = (depth.depth == 0) && (next.depth == 1)

abbrev pub first_open : Depth → Option Place → List Letter → Option Place
first_open depth place [] = if depth.depth == 0 then None else place
first_open depth place (letter ∷ letters) =
    first_open (depth_after depth letter.code) (if opens depth (depth_after depth letter.code) then Some letter.place else place) letters

-- where the first parenthesis begins that is open at the end
abbrev pub open_parenthesis : List Letter → Option Place
open_parenthesis letters = first_open outside None letters

abbrev pub comma_from : Depth → List Letter → ℕ
comma_from depth [] = 0
comma_from depth (letter ∷ letters) = if is_bare 44 depth letter.code then 0 else 1 + comma_from (depth_after depth letter.code) letters

-- how many letters stand before the first comma outside strings and parentheses
abbrev pub comma_in : List Letter → ℕ
comma_in letters = comma_from outside letters

abbrev pub are_paired_from : Depth → List Letter → Bool
are_paired_from depth [] = depth.depth == 0
are_paired_from depth (letter ∷ letters) = if is_bare 41 depth letter.code then false else are_paired_from (depth_after depth letter.code) letters

-- parentheses outside strings stand in pairs
abbrev pub are_paired : List Letter → Bool
are_paired letters = are_paired_from outside letters

-- ---- what belongs to operands

abbrev pub quoted_after : Bool → ℕ → Bool
quoted_after quoted c = if c == 39 then not quoted else quoted

abbrev pub ends : Bool → ℕ → Bool
ends quoted c = (c == 32) && not quoted

-- how many letters belong to operands, up to a blank outside strings
abbrev pub taken_count : Bool → List Letter → ℕ
taken_count quoted [] = 0
taken_count quoted (letter ∷ letters) = if ends quoted letter.code then 0 else 1 + taken_count (quoted_after quoted letter.code) letters

-- whether they end in a string
abbrev pub taken_quoted : Bool → List Letter → Bool
taken_quoted quoted [] = quoted
taken_quoted quoted (letter ∷ letters) = if ends quoted letter.code then false else taken_quoted (quoted_after quoted letter.code) letters
