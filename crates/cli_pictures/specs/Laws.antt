-- What is drawn once: each character that is seen, and with a layout each name, and no other.
use Rattle.std.specs.Prelude.{◌≡◌, ℕ, suc, ◌+◌, Bool, true, false, ◌&&◌, ◌==◌, nat_lt, Option, Some, None, List, [], ◌∷◌, codes, length, if◌then◌else◌}
use Rattle.std.specs.List.{filter}
use Rattle.ds_screen.specs.Picture.{Picture, IsSound}
use Rattle.cli_pictures.specs.Seen.{seen_at}
use Rattle.scr_layout.specs.Entry.{Declared}
use Rattle.scr_check.specs.declared.finding.Finding.{Finding}
use Rattle.cli_pictures.specs.Annotated.{annotated_svg}
use Rattle.cli_pictures.specs.Svg.{places, svg_element}

-- whether these bytes stand at the front
abbrev pub begins : List ℕ → List ℕ → Bool
begins [] bytes = true
begins (w ∷ ws) [] = false
begins (w ∷ ws) (b ∷ bytes) = (b == w) && begins ws bytes

-- at how many places a text element begins
abbrev pub texts_in : List ℕ → ℕ
texts_in [] = 0
texts_in (b ∷ bytes) = if begins (codes "<text") (b ∷ bytes) then suc (texts_in bytes) else texts_in bytes

abbrev pub is_some : Option ℕ → Bool
is_some None = false
is_some (Some character) = true

-- the positions at which a character is seen
abbrev pub seen_places : Picture → List ℕ
seen_places v = filter (λ p. is_some (seen_at v.cells p)) (places v)

-- in the drawing of a screen stand as many texts as characters are seen
abbrev pub DrawsSeen : Type 0
DrawsSeen = (v : Picture) → IsSound v → texts_in (svg_element v) ≡ length (seen_places v)

-- the entries whose first cell is on the screen
abbrev pub entries_on : Picture → List Declared → List Declared
entries_on v entries = filter (λ entry. nat_lt entry.place (length v.cells)) entries

-- in the drawing with a layout, besides these, one for each entry on the screen, one for each finding, and the list
abbrev pub NamesEach : Type 0
NamesEach = (v : Picture) (entries : List Declared) (findings : List Finding) → IsSound v
    → texts_in (annotated_svg entries findings v) ≡ length (seen_places v) + (length (entries_on v entries) + (length findings + 1))
