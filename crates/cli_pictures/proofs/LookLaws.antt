-- Rows with looks, without their sequences.
use Rattle.std.proofs.Common.{◌≡◌, ℕ, zero, suc, ◌+◌, ◌-◌, ◌*◌, ◌<◌, ◌≤◌, Bool, true, false, List, [], ◌∷◌, ◌++◌, length, map, refl, sym, ap, ◌∙◌, arith, append_assoc}
use Rattle.std.specs.Prelude.{not, ◌&&◌, ◌==◌, nat_le, nat_lt, codes, slice_index, if◌then◌else◌}
use Rattle.std.specs.List.{list_all, flat_map, range_with_len}
use Rattle.std.proofs.lemmas.Bool.{and_parts, ltb-true, leb-true}
use Rattle.ds_codec.specs.declared.cell.Cell.{Cell}
use Rattle.ds_codec.specs.declared.cell.Cell.TheVariants.{Field, Char}
use Rattle.ds_codec.specs.Attribute.{is_hidden}
use Rattle.ds_codec.specs.Character.{Glyph}
use Rattle.ds_screen.specs.Picture.{Picture, cell_at}
use Rattle.ds_screen.specs.Fields.{ruling_bits}
use Rattle.ds_screen.specs.Shown.{Run, printed_runs, printed_in, printed_code, text_of, printed_under, printed_cell}
use Rattle.cli_pictures.specs.declared.look.Look.{Look}
use Rattle.cli_pictures.specs.Colored.{look_at, is_plain, begin_look, end_look, begins_run, ends_run, before_cell, behind_cell, colored_cell, colored_column}
use Rattle.cli_pictures.specs.Unwrapped.{unwrapped, RowsAreShown}

-- ---- what is printed is no ESC

abbrev is_other : ℕ → Bool
is_other byte = not (byte == 0x1B)

index_other : (bytes : List ℕ) (i : ℕ) → list_all is_other bytes ≡ true → i < length bytes → is_other (slice_index bytes i) ≡ true
index_other [] i all lt = absurd (omega arith)
index_other (b ∷ bytes) zero all lt = (and_parts (is_other b) (list_all is_other bytes) all).0
index_other (b ∷ bytes) (suc i) all lt = index_other bytes i (and_parts (is_other b) (list_all is_other bytes) all).1 (omega arith)

either_other : (b : Bool) (x y : ℕ) → (b ≡ true → is_other x ≡ true) → is_other y ≡ true → is_other (if b then x else y) ≡ true
either_other true x y one other = one refl
either_other false x y one other = other

abbrev is_run : ℕ → Run → Bool
is_run code r = nat_le r.first code && nat_lt code (r.first + length r.characters)

in_run : (code : ℕ) (r : Run) → is_run code r ≡ true → code - r.first < length r.characters
in_run code r e =
    let parts = and_parts (nat_le r.first code) (nat_lt code (r.first + length r.characters)) e in
    let below : code < r.first + length r.characters = ltb-true code (r.first + length r.characters) parts.1 in
    let from : r.first ≤ code = leb-true r.first code parts.0 in
    omega (arith, below, from)

abbrev are_other : List Run → Bool
are_other runs = list_all (λ r. list_all is_other r.characters) runs

in_other : (code : ℕ) (runs : List Run) → are_other runs ≡ true → is_other (printed_in code runs) ≡ true
in_other code [] all = refl
in_other code (r ∷ runs) all =
    let parts = and_parts (list_all is_other r.characters) (are_other runs) all in
    either_other (is_run code r) (slice_index r.characters (code - r.first)) (printed_in code runs)
    (λ e. index_other r.characters (code - r.first) parts.0 (in_run code r e)) (in_other code runs parts.1)

code_other : (code : ℕ) → is_other (printed_code code) ≡ true
unfolding printed_code
code_other code = in_other code printed_runs refl

text_other : (character : Glyph) → is_other (text_of character) ≡ true
text_other character = either_other character.alt 63 (printed_code character.code) (λ e. refl) (code_other character.code)

under_other : (bits : ℕ) (cell : Cell) → is_other (printed_under bits cell) ≡ true
under_other bits (Field attribute) = refl
under_other bits (Char character) =
    either_other (character.code == 0) 46 (if is_hidden bits then 42 else text_of character) (λ e. refl)
    (either_other (is_hidden bits) 42 (text_of character) (λ e. refl) (text_other character))

-- ---- a cell

not_true : (b : Bool) → not b ≡ true → b ≡ false
not_true true e = sym e
not_true false e = refl

stays : (byte : ℕ) (rest : List ℕ) → is_other byte ≡ true → unwrapped false (byte ∷ rest) ≡ byte ∷ unwrapped false rest
stays byte rest other = rw (not_true (byte == 0x1B) other) refl

codes_go : (bold underlined reversed : Bool) (rest : List ℕ)
    → unwrapped false ((0x1B ∷ 0x5B ∷ 0x30 ∷ ((if bold then codes ";1" else []) ++ ((if underlined then codes ";4" else []) ++ ((if reversed then codes ";7" else []) ++ codes "m")))) ++ rest)
    ≡ unwrapped false rest
codes_go true true true rest = refl
codes_go true true false rest = refl
codes_go true false true rest = refl
codes_go true false false rest = refl
codes_go false true true rest = refl
codes_go false true false rest = refl
codes_go false false true rest = refl
codes_go false false false rest = refl

begin_goes : (look : Look) (rest : List ℕ) → unwrapped false (begin_look look ++ rest) ≡ unwrapped false rest
unfolding begin_look
begin_goes look rest = codes_go look.bold look.underlined look.reversed rest

end_goes : (rest : List ℕ) → unwrapped false (end_look ++ rest) ≡ unwrapped false rest
unfolding end_look
end_goes rest = refl

if_goes : (b : Bool) (sequence rest : List ℕ) → unwrapped false (sequence ++ rest) ≡ unwrapped false rest
    → unwrapped false ((if b then sequence else []) ++ rest) ≡ unwrapped false rest
if_goes true sequence rest goes = goes
if_goes false sequence rest goes = refl

before_goes : (v : Picture) (p : ℕ) (rest : List ℕ) → unwrapped false (before_cell v p ++ rest) ≡ unwrapped false rest
unfolding before_cell
before_goes v p rest = if_goes (not (is_plain (look_at v p)) && begins_run v p) (begin_look (look_at v p)) rest (begin_goes (look_at v p) rest)

behind_goes : (v : Picture) (p : ℕ) (rest : List ℕ) → unwrapped false (behind_cell v p ++ rest) ≡ unwrapped false rest
unfolding behind_cell
behind_goes v p rest = if_goes (not (is_plain (look_at v p)) && ends_run v p) end_look rest (end_goes rest)

cell_stays : (v : Picture) (p : ℕ) (rest : List ℕ) → unwrapped false (colored_cell v p ++ rest) ≡ printed_cell v.cells p ∷ unwrapped false rest
unfolding colored_cell
cell_stays v p rest =
    ap (unwrapped false) (append_assoc (before_cell v p) (printed_cell v.cells p ∷ behind_cell v p) rest)
    ∙ before_goes v p _ ∙ stays (printed_cell v.cells p) (behind_cell v p ++ rest) (under_other (ruling_bits v.cells p) (cell_at v.cells p))
    ∙ ap (λ bytes. printed_cell v.cells p ∷ bytes) (behind_goes v p rest)

-- ---- a row

column_stays : (v : Picture) (row column : ℕ) (rest : List ℕ)
    → unwrapped false (colored_column v row column ++ rest) ≡ printed_cell v.cells (row * v.size.cols + column) ∷ unwrapped false rest
unfolding colored_column
column_stays v row column rest = cell_stays v (row * v.size.cols + column) rest

columns_stay : (v : Picture) (row n a : ℕ)
    → unwrapped false (flat_map (colored_column v row) (range_with_len a n)) ≡ map (printed_cell v.cells) (range_with_len (row * v.size.cols + a) n)
columns_stay v row zero a = refl
columns_stay v row (suc n) a =
    let next : row * v.size.cols + (a + 1) ≡ row * v.size.cols + a + 1 = omega arith in
    column_stays v row a (flat_map (colored_column v row) (range_with_len (a + 1) n))
    ∙ ap (λ bytes. printed_cell v.cells (row * v.size.cols + a) ∷ bytes)
    (columns_stay v row n (a + 1) ∙ ap (λ from. map (printed_cell v.cells) (range_with_len from n)) next)

pub rows_are_shown : RowsAreShown
rows_are_shown v row =
    let first : row * v.size.cols + 0 ≡ row * v.size.cols = omega arith in
    columns_stay v row v.size.cols 0 ∙ ap (λ from. map (printed_cell v.cells) (range_with_len from v.size.cols)) first
