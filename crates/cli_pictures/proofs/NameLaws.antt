-- The texts of a drawing with a layout, counted.
use Rattle.std.proofs.Common.{◌≡◌, ℕ, zero, suc, ◌+◌, ◌-◌, ◌*◌, ◌%◌, ◌<◌, ◌≤◌, ◌^◌, Bool, true, false, List, [], ◌∷◌, ◌++◌, length, refl, ap, ◌∙◌, arith, append_assoc}
use Rattle.std.specs.Prelude.{not, ◌==◌, ◌&&◌, codes, nat_lt, nat_le, min, max, Option, Some, None, if◌then◌else◌}
use Rattle.std.specs.Fmt.{decimal}
use Rattle.std.specs.List.{flat_map, range_with_len}
use Rattle.std.proofs.lemmas.Bool.{ltb-true}
use Rattle.ds_screen.specs.Picture.{Picture}
use Rattle.scr_layout.specs.Entry.{Declared}
use Rattle.scr_check.specs.declared.finding.Finding.{Finding}
use Rattle.scr_check.specs.FindingText.{finding_text}
use Rattle.cli_pictures.specs.declared.marks.Frame.{Frame}
use Rattle.cli_pictures.specs.declared.room.Stand.{Stand}
use Rattle.cli_pictures.specs.declared.room.Stand.TheVariants.{Above, Behind, Numbered}
use Rattle.cli_pictures.specs.Annotated.{annotated_svg}
use Rattle.cli_pictures.specs.Codes.{place_on}
use Rattle.cli_pictures.specs.Laws.{texts_in, seen_places, entries_on, NamesEach}
use Rattle.cli_pictures.specs.Marks.{place_of, marked_length, begins_part, part_frame, screen_frame}
use Rattle.cli_pictures.specs.Notes.{escaped_byte, escaped_text, notes_style, note_begin, note, name_element, name_on, names_from, frame_begin, frame_end, frame_element, part_element, parts, mark_words, mark, place_shown, marked_at, finding_element, findings_from, names_listed, findings_listed, line_begin, list_line, list_lines, list_begin, list_element, widest, wide, high}
use Rattle.cli_pictures.specs.Room.{behind, name_width, has_place, has_room_behind, has_room_above, is_free, stand_of}
use Rattle.cli_pictures.specs.Svg.{left_of, top_of}
use Rattle.cli_pictures.proofs.CountLaws.{size_good, sized_counts}
use Rattle.cli_pictures.proofs.ElementLaws.{skip_on, number_on, either_bare, escaped_bare, left_small, top_small}
use Rattle.cli_pictures.proofs.RowLaws.{few_cells}
use Rattle.cli_pictures.proofs.TagLaws.{are_bare, both_bare}

-- ---- words

byte_bare : (byte : ℕ) → are_bare (escaped_byte byte) ≡ true
unfolding escaped_byte
byte_bare byte = either_bare (nat_lt byte 128) _ _ (escaped_bare byte) (λ other. refl)

words_bare : (bytes : List ℕ) → are_bare (escaped_text bytes) ≡ true
words_bare [] = refl
words_bare (byte ∷ bytes) = both_bare (escaped_byte byte) (escaped_text bytes) (byte_bare byte) (words_bare bytes)

style_skips : (rest : List ℕ) → texts_in (notes_style ++ rest) ≡ texts_in rest
unfolding notes_style
style_skips rest = refl

begin_counts : (class : List ℕ) (x y : ℕ) (rest : List ℕ) → are_bare class ≡ true → x < 2 ^ 64 → y < 2 ^ 64
    → texts_in (note_begin class x y ++ rest) ≡ suc (texts_in rest)
unfolding note_begin
begin_counts class x y rest bare wide high = ap suc (skip_on class _ rest bare ∙ number_on x _ rest wide ∙ number_on y _ rest high)

-- a note is one text
note_counts : (class : List ℕ) (x y : ℕ) (words rest : List ℕ) → are_bare class ≡ true → x < 2 ^ 64 → y < 2 ^ 64
    → texts_in (note class x y words ++ rest) ≡ suc (texts_in rest)
note_counts class x y words rest bare wide high =
    ap texts_in (append_assoc (note_begin class x y) (escaped_text words ++ codes "</text>\n") rest)
    ∙ begin_counts class x y _ bare wide high ∙ ap suc (skip_on (escaped_text words) (codes "</text>\n") rest (words_bare words))

-- ---- names

both_first : (a b : Bool) → (a && b) ≡ true → a ≡ true
both_first true b e = refl
both_first false b e = e

-- a name stands behind its field only on the screen
abbrev IsNear : Picture → Declared → Stand → Type 0
IsNear v entry Above = Unit {0}
IsNear v entry Behind = behind entry < length v.cells
IsNear v entry Numbered = Unit {0}

near_others : (b : Bool) (v : Picture) (entry : Declared) → IsNear v entry (if b then Above else Numbered)
near_others true v entry = tt
near_others false v entry = tt

near_if : (b : Bool) (v : Picture) (entry : Declared) (other : Stand) → (b ≡ true → behind entry < length v.cells) → IsNear v entry other
    → IsNear v entry (if b then Behind else other)
near_if true v entry other one two = one refl
near_if false v entry other one two = two

near : (v : Picture) (all : List Declared) (entry : Declared) → IsNear v entry (stand_of v all entry)
near v all entry =
    near_if (has_room_behind v all entry) v entry _
    (λ e. ltb-true _ _ (both_first (nat_lt (behind entry) (length v.cells)) _ (both_first (is_free v (behind entry) (name_width entry)) _ e)))
    (near_others (has_room_above v all entry) v entry)

name_counts : (v : Picture) (stand : Stand) (number : ℕ) (entry : Declared) (rest : List ℕ) → length v.cells ≤ 65025 → entry.place < 2 ^ 32 → IsNear v entry stand
    → texts_in (name_element v.size.cols stand number entry ++ rest) ≡ suc (texts_in rest)
name_counts v Above number entry rest few lt here =
    note_counts (codes "name") (left_of v.size.cols entry.place) (top_of v.size.cols entry.place - 3) entry.name rest refl (omega (arith, left_small v.size.cols entry.place lt))
    (omega (arith, top_small v.size.cols entry.place lt))
name_counts v Behind number entry rest few lt here =
    let small : behind entry < 2 ^ 32 = omega (arith, few, here) in
    note_counts (codes "name") (left_of v.size.cols (behind entry)) (top_of v.size.cols (behind entry) + 14) entry.name rest refl (omega (arith, left_small v.size.cols (behind entry) small))
    (omega (arith, top_small v.size.cols (behind entry) small))
name_counts v Numbered number entry rest few lt here =
    note_counts (codes "number") (left_of v.size.cols entry.place) (top_of v.size.cols entry.place + 7) (decimal number) rest refl (omega (arith, left_small v.size.cols entry.place lt))
    (omega (arith, top_small v.size.cols entry.place lt))

name_if_counts : (on : Bool) (v : Picture) (stand : Stand) (number : ℕ) (entry : Declared) (rest : List ℕ) → length v.cells ≤ 65025
    → (on ≡ true → entry.place < 2 ^ 32) → IsNear v entry stand
    → texts_in ((if on then name_element v.size.cols stand number entry else []) ++ rest) ≡ (if on then suc (texts_in rest) else texts_in rest)
name_if_counts true v stand number entry rest few small here = name_counts v stand number entry rest few (small refl) here
name_if_counts false v stand number entry rest few small here = refl

name_on_counts : (v : Picture) (all : List Declared) (number : ℕ) (entry : Declared) (rest : List ℕ) → length v.cells ≤ 65025
    → texts_in (name_on v all number entry ++ rest) ≡ (if nat_lt entry.place (length v.cells) then suc (texts_in rest) else texts_in rest)
unfolding name_on
name_on_counts v all number entry rest few =
    name_if_counts (nat_lt entry.place (length v.cells)) v (stand_of v all entry) number entry rest few (λ e. omega (arith, few, ltb-true _ _ e)) (near v all entry)

kept_counts : (on : Bool) (entry : Declared) (others : List Declared) (n : ℕ)
    → (if on then suc (length others + n) else length others + n) ≡ length (if on then entry ∷ others else others) + n
kept_counts true entry others n = omega arith
kept_counts false entry others n = refl

names_count : (v : Picture) (all : List Declared) (number : ℕ) (entries : List Declared) (rest : List ℕ) → length v.cells ≤ 65025
    → texts_in (names_from v all number entries ++ rest) ≡ length (entries_on v entries) + texts_in rest
names_count v all number [] rest few = omega arith
names_count v all number (entry ∷ entries) rest few =
    ap texts_in (append_assoc (name_on v all number entry) (names_from v all (number + 1) entries) rest)
    ∙ name_on_counts v all number entry (names_from v all (number + 1) entries ++ rest) few
    ∙ ap (λ n. if nat_lt entry.place (length v.cells) then suc n else n) (names_count v all (number + 1) entries rest few)
    ∙ kept_counts (nat_lt entry.place (length v.cells)) entry (entries_on v entries) (texts_in rest)

-- ---- frames

record IsSmall (frame : Frame) : Type 0 where
  left : frame.left < 2 ^ 64
  top : frame.top < 2 ^ 64
  width : frame.width < 2 ^ 64
  height : frame.height < 2 ^ 64

-- whatever the place, its part of a row is no longer than the row
part_small : (cols place count : ℕ) → cols ≤ 255 → place < 2 ^ 32
    → IsSmall (record { left = left_of cols place; top = top_of cols place; width = 10 * min count (cols - place % cols); height = 20 })
part_small cols place count narrow lt =
    record {
      left = omega (arith, left_small cols place lt);
      top = omega (arith, top_small cols place lt);
      width = omega (arith, narrow);
      height = omega arith;
    }

screen_small : (v : Picture) → v.size.rows ≤ 255 → v.size.cols ≤ 255 → IsSmall (screen_frame v.size)
screen_small v low narrow = record { left = omega arith; top = omega arith; width = omega (arith, narrow); height = omega (arith, low) }

frame_skips : (frame : Frame) (rest : List ℕ) → IsSmall frame → texts_in (frame_begin frame ++ rest) ≡ texts_in rest
unfolding frame_begin
frame_skips frame rest small =
    number_on frame.left _ rest small.left ∙ number_on frame.top _ rest small.top ∙ number_on frame.width _ rest small.width
    ∙ number_on frame.height _ rest small.height

end_skips : (words rest : List ℕ) → are_bare words ≡ true → texts_in ((words ++ frame_end) ++ rest) ≡ texts_in rest
unfolding frame_end
end_skips words rest bare = skip_on words (codes "</title></rect>\n") rest bare

element_skips : (frame : Frame) (words rest : List ℕ) → IsSmall frame → texts_in (frame_element frame words ++ rest) ≡ texts_in rest
element_skips frame words rest small =
    ap texts_in (append_assoc (frame_begin frame) (escaped_text words ++ frame_end) rest)
    ∙ frame_skips frame _ small ∙ end_skips (escaped_text words) rest (words_bare words)

element_if_skips : (on : Bool) (frame : Frame) (words rest : List ℕ) → IsSmall frame → texts_in ((if on then frame_element frame words else []) ++ rest) ≡ texts_in rest
element_if_skips true frame words rest small = element_skips frame words rest small
element_if_skips false frame words rest small = refl

part_skips : (v : Picture) (p count : ℕ) (words : List ℕ) (steps : ℕ) (rest : List ℕ) → v.size.cols ≤ 255 → place_on (length v.cells) p steps < 2 ^ 32
    → texts_in (part_element v p count words steps ++ rest) ≡ texts_in rest
unfolding part_element
part_skips v p count words steps rest narrow lt =
    element_if_skips (begins_part v p steps) (part_frame v p count steps) words rest (part_small v.size.cols (place_on (length v.cells) p steps) (count - steps) narrow lt)

parts_skip : (v : Picture) (p count : ℕ) (words : List ℕ) (n a : ℕ) (rest : List ℕ) → v.size.cols ≤ 255 → ((steps : ℕ) → place_on (length v.cells) p steps < 2 ^ 32)
    → texts_in (flat_map (part_element v p count words) (range_with_len a n) ++ rest) ≡ texts_in rest
parts_skip v p count words zero a rest narrow lt = refl
parts_skip v p count words (suc n) a rest narrow lt =
    ap texts_in (append_assoc (part_element v p count words a) (flat_map (part_element v p count words) (range_with_len (a + 1) n)) rest)
    ∙ part_skips v p count words a _ narrow (lt a) ∙ parts_skip v p count words n (a + 1) rest narrow lt

mark_counts : (cols p number : ℕ) (rest : List ℕ) → p < 2 ^ 32 → texts_in (mark cols p number ++ rest) ≡ suc (texts_in rest)
mark_counts cols p number rest lt =
    note_counts (codes "mark") (left_of cols p) (top_of cols p + 18) (mark_words number) rest refl (omega (arith, left_small cols p lt)) (omega (arith, top_small cols p lt))

abbrev IsNearPlace : Picture → Option ℕ → Type 0
IsNearPlace v None = Unit {0}
IsNearPlace v (Some p) = p < length v.cells

near_shown : (b : Bool) (v : Picture) (p : ℕ) → (b ≡ true → p < length v.cells) → IsNearPlace v (if b then Some p else None)
near_shown true v p lt = lt refl
near_shown false v p lt = tt

near_place : (v : Picture) (place : Option ℕ) → IsNearPlace v (place_shown v place)
near_place v None = tt
near_place v (Some p) = near_shown (nat_lt p (length v.cells)) v p (λ e. ltb-true _ _ e)

-- what a drawing of a picture has room for
record IsFew (v : Picture) : Type 0 where
  low : v.size.rows ≤ 255
  narrow : v.size.cols ≤ 255
  few : length v.cells ≤ 65025
  on : (p steps : ℕ) → place_on (length v.cells) p steps < 2 ^ 32

marked_counts : (v : Picture) (entries : List Declared) (number : ℕ) (finding : Finding) (place : Option ℕ) (rest : List ℕ) → IsFew v → IsNearPlace v place
    → texts_in (marked_at v entries number finding place ++ rest) ≡ suc (texts_in rest)
marked_counts v entries number finding None rest few here =
    ap texts_in (append_assoc (frame_element (screen_frame v.size) (finding_text entries finding)) (mark v.size.cols 0 number) rest)
    ∙ element_skips (screen_frame v.size) (finding_text entries finding) _ (screen_small v few.low few.narrow) ∙ mark_counts v.size.cols 0 number rest (omega arith)
marked_counts v entries number finding (Some p) rest few here =
    let count = marked_length v.cells entries finding p in
    ap texts_in (append_assoc (parts v p count (finding_text entries finding)) (mark v.size.cols p number) rest)
    ∙ parts_skip v p count (finding_text entries finding) count 0 _ few.narrow (few.on p) ∙ mark_counts v.size.cols p number rest (let most = few.few in omega (arith, most, here))

finding_counts : (v : Picture) (entries : List Declared) (number : ℕ) (finding : Finding) (rest : List ℕ) → IsFew v
    → texts_in (finding_element v entries number finding ++ rest) ≡ suc (texts_in rest)
unfolding finding_element
finding_counts v entries number finding rest few =
    marked_counts v entries number finding (place_shown v (place_of entries finding)) rest few (near_place v (place_of entries finding))

findings_count : (v : Picture) (entries : List Declared) (number : ℕ) (findings : List Finding) (rest : List ℕ) → IsFew v
    → texts_in (findings_from v entries number findings ++ rest) ≡ length findings + texts_in rest
findings_count v entries number [] rest few = omega arith
findings_count v entries number (finding ∷ findings) rest few =
    ap texts_in (append_assoc (finding_element v entries number finding) (findings_from v entries (number + 1) findings) rest)
    ∙ finding_counts v entries number finding _ few ∙ ap suc (findings_count v entries (number + 1) findings rest few) ∙ omega arith

-- ---- the list

line_skips : (class words rest : List ℕ) → are_bare class ≡ true → texts_in (list_line class words ++ rest) ≡ texts_in rest
unfolding line_begin
line_skips class words rest bare =
    ap texts_in (append_assoc (line_begin class) (escaped_text words ++ codes "</tspan>\n") rest)
    ∙ skip_on class (codes " x=\"10\" dy=\"16\">") ((escaped_text words ++ codes "</tspan>\n") ++ rest) bare
    ∙ skip_on (escaped_text words) (codes "</tspan>\n") rest (words_bare words)

lines_skip : (class : List ℕ) (lines : List (List ℕ)) (rest : List ℕ) → are_bare class ≡ true → texts_in (list_lines class lines ++ rest) ≡ texts_in rest
lines_skip class [] rest bare = refl
lines_skip class (line ∷ lines) rest bare =
    ap texts_in (append_assoc (list_line class line) (list_lines class lines) rest)
    ∙ line_skips class line _ bare ∙ lines_skip class lines rest bare

list_begins : (y : ℕ) (rest : List ℕ) → y < 2 ^ 64 → texts_in (list_begin y ++ rest) ≡ suc (texts_in rest)
unfolding list_begin
list_begins y rest lt = ap suc (number_on y _ rest lt)

list_counts : (v : Picture) (names words : List (List ℕ)) (rest : List ℕ) → v.size.rows ≤ 255 → texts_in (list_element v.size names words ++ rest) ≡ suc (texts_in rest)
list_counts v names words rest low =
    let y : ℕ = 20 * v.size.rows + 16 in
    let found = list_lines (codes " class=\"finding\"") words in
    ap texts_in (append_assoc (list_begin y) (list_lines [] names ++ (found ++ codes "</text>\n")) rest)
    ∙ list_begins y _ (omega (arith, low))
    ∙ ap suc (ap texts_in (append_assoc (list_lines [] names) (found ++ codes "</text>\n") rest)
    ∙ lines_skip [] names _ refl
    ∙ ap texts_in (append_assoc found (codes "</text>\n") rest)
    ∙ lines_skip (codes " class=\"finding\"") words _ refl)

widest_few : (lines : List (List ℕ)) → widest lines ≤ 1000
widest_few [] = omega arith
widest_few (line ∷ lines) = omega (arith, widest_few lines)

-- ---- the whole

mod_small : (a n : ℕ) → n ≤ 65025 → 0 < n → a % n < 2 ^ 32
mod_small a n few some = omega arith

pub names_each : NamesEach
unfolding annotated_svg
names_each v entries findings sound =
    let good = size_good v sound in
    let small : length v.cells ≤ 65025 = omega (arith, sound.whole, few_cells v.size.rows v.size.cols good.few_rows good.few_cols) in
    let some : 0 < length v.cells = omega (arith, sound.whole, sound.cursor_inside) in
    let few : IsFew v = record { low = good.few_rows; narrow = good.few_cols; few = small; on = λ p steps. mod_small (p + steps) (length v.cells) small some } in
    let listed = names_listed v entries 1 entries in
    let words = findings_listed entries 1 findings in
    let names = names_from v entries 1 entries in
    let frames = findings_from v entries 1 findings in
    let list = list_element v.size listed words ++ codes "</svg>\n" in
    sized_counts v (wide v.size listed words) (high v.size listed words) ((notes_style ++ (names ++ frames)) ++ list) sound
    (omega (arith, good.few_cols, widest_few listed, widest_few words)) (omega (arith, good.few_rows))
    ∙ ap (λ n. length (seen_places v) + n)
    (ap texts_in (append_assoc notes_style (names ++ frames) list) ∙ style_skips ((names ++ frames) ++ list)
    ∙ ap texts_in (append_assoc names frames list)
    ∙ names_count v entries 1 entries (frames ++ list) small
    ∙ ap (λ n. length (entries_on v entries) + n)
    (findings_count v entries 1 findings list few
    ∙ ap (λ n. length findings + n) (list_counts v listed words (codes "</svg>\n") good.few_rows)))
