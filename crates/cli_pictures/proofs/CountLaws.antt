-- The texts of a drawing, counted.
use Rattle.std.proofs.Common.{◌≡◌, ℕ, zero, suc, ◌+◌, ◌-◌, ◌*◌, ◌/◌, ◌%◌, ◌<◌, ◌≤◌, ◌^◌, Bool, true, false, List, [], ◌∷◌, ◌++◌, length, refl, ap, ◌∙◌, arith, inl, inr, append_assoc}
use Rattle.std.specs.Prelude.{not, codes, Option, Some, None, unwrap_or, if◌then◌else◌}
use Rattle.std.specs.Fmt.{decimal}
use Rattle.std.specs.List.{flat_map, filter, range_with_len}
use Rattle.ds_codec.specs.Geometry.{IsGood}
use Rattle.ds_screen.specs.declared.lock.Lock.{Lock}
use Rattle.ds_screen.specs.declared.lock.Lock.TheVariants.{Free, Waiting, Error}
use Rattle.ds_screen.specs.Ring.{least}
use Rattle.ds_screen.specs.Picture.{Picture, IsSound}
use Rattle.ds_screen.specs.Fields.{is_open, ruling_bits}
use Rattle.ds_screen.proofs.RingLaws.{search_cases, least_found, least_none}
use Rattle.cli_commands.specs.Screen.{lock_word}
use Rattle.cli_pictures.specs.Laws.{texts_in, is_some, seen_places, DrawsSeen}
use Rattle.cli_pictures.specs.Seen.{seen_at, open_length}
use Rattle.cli_pictures.specs.Svg.{places, seen_text, text_at, line_element, begins_line, line_at, size_words, cursor_words, cursor_place, keyboard_words, title, title_line, root_line, style_lines, sized_head, cursor_element, svg_element}
use Rattle.cli_pictures.proofs.RowLaws.{few_cells}
use Rattle.cli_pictures.proofs.TagLaws.{are_bare, both_bare, decimal_bare}
use Rattle.cli_pictures.proofs.ElementLaws.{skip_on, text_counts, line_skips, cursor_skips, root_skips, style_skips}

-- ---- lines

pub least_few : (most : ℕ) (test : ℕ → Bool) → unwrap_or (least most test) most ≤ most
least_few most test =
    elim (search_cases most test) [
      | inl found ↦ rw (least_found most test found.0 found.1) (omega (arith, found.1.inside))
      | inr misses ↦ rw (least_none most test misses) (omega arith)
    ]

line_if_skips : (begins : Bool) (cols p count : ℕ) (rest : List ℕ) → p < 2 ^ 32 → count < 2 ^ 32
    → texts_in ((if begins then line_element cols p count else []) ++ rest) ≡ texts_in rest
line_if_skips true cols p count rest lt few = line_skips cols p count rest lt few
line_if_skips false cols p count rest lt few = refl

line_at_skips : (v : Picture) (p : ℕ) (rest : List ℕ) → v.size.cols < 2 ^ 32 → p < 2 ^ 32 → texts_in (line_at v p ++ rest) ≡ texts_in rest
line_at_skips v p rest narrow lt =
    let most : ℕ = v.size.cols - p % v.size.cols in
    let few : open_length v.cells p most ≤ most = least_few most (λ d. not (is_open v.cells (p + d))) in
    let fewer : most ≤ v.size.cols = omega arith in
    line_if_skips (begins_line v.size.cols v.cells p) v.size.cols p (open_length v.cells p most) rest lt (omega (arith, few, fewer))

lines_skip : (v : Picture) (n a : ℕ) (rest : List ℕ) → v.size.cols < 2 ^ 32 → a + n ≤ 2 ^ 32
    → texts_in (flat_map (line_at v) (range_with_len a n) ++ rest) ≡ texts_in rest
lines_skip v zero a rest narrow le = refl
lines_skip v (suc n) a rest narrow le =
    ap texts_in (append_assoc (line_at v a) (flat_map (line_at v) (range_with_len (a + 1) n)) rest)
    ∙ line_at_skips v a _ narrow (omega arith) ∙ lines_skip v n (a + 1) rest narrow (omega arith)

-- ---- texts

-- how many texts stand for what is seen at a position
abbrev one_if : Option ℕ → ℕ → ℕ
one_if None n = n
one_if (Some character) n = suc n

seen_text_counts : (cols p bits : ℕ) (seen : Option ℕ) (rest : List ℕ) → p < 2 ^ 32 → texts_in (seen_text cols p bits seen ++ rest) ≡ one_if seen (texts_in rest)
seen_text_counts cols p bits None rest lt = refl
seen_text_counts cols p bits (Some character) rest lt = text_counts cols p bits character rest lt

kept_counts : (seen : Option ℕ) (p : ℕ) (others : List ℕ) (n : ℕ)
    → one_if seen (length others + n) ≡ length (if is_some seen then p ∷ others else others) + n
kept_counts None p others n = refl
kept_counts (Some character) p others n = omega arith

texts_count : (v : Picture) (n a : ℕ) (rest : List ℕ) → a + n ≤ 2 ^ 32
    → texts_in (flat_map (text_at v) (range_with_len a n) ++ rest) ≡ length (filter (λ p. is_some (seen_at v.cells p)) (range_with_len a n)) + texts_in rest
texts_count v zero a rest le = omega arith
texts_count v (suc n) a rest le =
    ap texts_in (append_assoc (text_at v a) (flat_map (text_at v) (range_with_len (a + 1) n)) rest)
    ∙ seen_text_counts v.size.cols a (ruling_bits v.cells a) (seen_at v.cells a) _ (omega arith)
    ∙ ap (one_if (seen_at v.cells a)) (texts_count v n (a + 1) rest (omega arith))
    ∙ kept_counts (seen_at v.cells a) a (filter (λ p. is_some (seen_at v.cells p)) (range_with_len (a + 1) n)) (texts_in rest)

-- ---- what stands above them

lock_bare : (lock : Lock) → are_bare (lock_word lock) ≡ true
lock_bare Free = refl
lock_bare Waiting = refl
lock_bare Error = refl

keyboard_bare : (lock : Lock) → are_bare (keyboard_words lock) ≡ true
unfolding keyboard_words
keyboard_bare lock = lock_bare lock

size_bare : (rows cols : ℕ) → rows < 2 ^ 32 → cols < 2 ^ 32 → are_bare (size_words rows cols) ≡ true
unfolding size_words
size_bare rows cols low narrow =
    both_bare (decimal rows) (codes "x" ++ decimal cols) (decimal_bare rows (omega arith)) (decimal_bare cols (omega arith))

place_bare : (row column : ℕ) → row < 2 ^ 64 → column < 2 ^ 64 → are_bare (cursor_words row column) ≡ true
unfolding cursor_words
place_bare row column low narrow =
    both_bare (decimal row) (codes ", column " ++ decimal column) (decimal_bare row low) (decimal_bare column narrow)

cursor_bare : (v : Picture) → v.cursor < 2 ^ 32 → are_bare (cursor_place v) ≡ true
unfolding cursor_place
cursor_bare v inside = place_bare (v.cursor / v.size.cols + 1) (v.cursor % v.size.cols + 1) (omega arith) (omega arith)

title_bare : (v : Picture) → v.size.rows < 2 ^ 32 → v.size.cols < 2 ^ 32 → v.cursor < 2 ^ 32 → are_bare (title v) ≡ true
title_bare v low narrow inside =
    both_bare (size_words v.size.rows v.size.cols) _ (size_bare v.size.rows v.size.cols low narrow)
    (both_bare (cursor_place v) _ (cursor_bare v inside) (keyboard_bare v.lock))

title_skips : (v : Picture) (rest : List ℕ) → v.size.rows < 2 ^ 32 → v.size.cols < 2 ^ 32 → v.cursor < 2 ^ 32 → texts_in (title_line v ++ rest) ≡ texts_in rest
unfolding title_line
title_skips v rest low narrow inside = skip_on (title v) _ rest (title_bare v low narrow inside)

head_skips : (v : Picture) (x y : ℕ) (rest : List ℕ) → v.size.rows ≤ 255 → v.size.cols ≤ 255 → v.cursor < 2 ^ 32 → x < 2 ^ 32 → y < 2 ^ 32
    → texts_in (sized_head v x y ++ rest) ≡ texts_in rest
head_skips v x y rest low narrow inside wide high =
    ap texts_in (append_assoc (root_line x y) (title_line v ++ style_lines) rest)
    ∙ root_skips x y ((title_line v ++ style_lines) ++ rest) wide high
    ∙ ap texts_in (append_assoc (title_line v) style_lines rest)
    ∙ title_skips v (style_lines ++ rest) (omega arith) (omega arith) inside ∙ style_skips rest

-- ---- the whole

pub size_good : (v : Picture) → IsSound v → IsGood v.geometry.mode v.size
size_good v sound =
    elim sound.one_of_two [
      | inl same ↦ rw same sound.default_good
      | inr same ↦ rw same sound.alternate_good
    ]

-- up to the cursor as many texts as characters are seen, in a drawing of any size
pub sized_counts : (v : Picture) (x y : ℕ) (rest : List ℕ) → IsSound v → x < 2 ^ 32 → y < 2 ^ 32
    → texts_in (sized_head v x y ++ (flat_map (line_at v) (places v) ++ (flat_map (text_at v) (places v) ++ (cursor_element v.size.cols v.cursor ++ rest))))
    ≡ length (seen_places v) + texts_in rest
sized_counts v x y rest sound wide high =
    let good = size_good v sound in
    let few : length v.cells ≤ 65025 = omega (arith, sound.whole, few_cells v.size.rows v.size.cols good.few_rows good.few_cols) in
    let inside : v.cursor < 2 ^ 32 = omega (arith, sound.cursor_inside, few_cells v.size.rows v.size.cols good.few_rows good.few_cols) in
    head_skips v x y _ good.few_rows good.few_cols inside wide high
    ∙ lines_skip v (length v.cells) 0 _ (omega (arith, good.few_cols)) (omega (arith, few))
    ∙ texts_count v (length v.cells) 0 _ (omega (arith, few))
    ∙ ap (λ n. length (seen_places v) + n) (cursor_skips v.size.cols v.cursor rest inside)

pub draws_seen : DrawsSeen
unfolding svg_element
draws_seen v sound =
    let good = size_good v sound in
    sized_counts v (10 * v.size.cols + 20) (20 * v.size.rows + 20) (codes "</svg>\n") sound (omega (arith, good.few_cols)) (omega (arith, good.few_rows)) ∙ omega arith
