-- The bytes of cells, cell after cell, and how many they are.
use Rattle.std.proofs.Common.{◌≡◌, ℕ, zero, suc, ◌+◌, ◌*◌, ◌<◌, ◌≤◌, Bool, true, false, cond, leb, List, [], ◌∷◌, ◌++◌, length, get_or, take, refl, sym, ap, ◌∙◌, arith, append_assoc, length-append}
use Rattle.std.specs.List.{flat_map}
use Rattle.std.proofs.lemmas.List.{append-nil, take_more, take_all}
use Rattle.std.proofs.lemmas.List.Concat.{flat_map-cons}
use Rattle.std.proofs.lemmas.Grind.{flat_map-append}
use Rattle.ds_codec.specs.declared.cell.Cell.{Cell}
use Rattle.ds_codec.specs.declared.cell.Cell.TheVariants.{Field, Char}
use Rattle.ds_codec.specs.declared.size.Mode.{Mode}
use Rattle.ds_codec.specs.declared.size.Mode.TheVariants.{Bits14, Bits16}
use Rattle.ds_codec.specs.Address.{six_bit_code, written_address}
use Rattle.ds_codec.specs.Character.{Glyph}
use Rattle.ds_screen.specs.Picture.{cell_at, blank}
use Rattle.buffer_lines.specs.Record.{cell_bytes}
use Rattle.ds_state.specs.State.{cells_bytes}

-- ---- cell after cell

-- the cell at a position that is there doesn't depend on what stands past the end
any_there : (cells : List Cell) (k : ℕ) (one other : Cell) → k < length cells → get_or cells k one ≡ get_or cells k other
any_there [] k one other lt = absurd (omega (arith, lt))
any_there (cell ∷ cells) zero one other lt = refl
any_there (cell ∷ cells) (suc k) one other lt = any_there cells k one other (omega (arith, lt))

pub cell_there : (cells : List Cell) (k : ℕ) (cell : Cell) → k < length cells → cell ≡ cell_at cells k → cell ≡ get_or cells k cell
cell_there cells k cell lt is = is ∙ any_there cells k blank cell lt

pub bytes_more : (f : Cell → List ℕ) (cells : List Cell) (k : ℕ) (cell : Cell) (before so_far after : List ℕ) → k < length cells → cell ≡ cell_at cells k
    → so_far ≡ before ++ flat_map f (take k cells) → after ≡ so_far ++ f cell
    → after ≡ before ++ flat_map f (take (k + 1) cells)
bytes_more f cells k cell before so_far after lt is said next =
    let here : cell ≡ get_or cells k cell = cell_there cells k cell lt is in
    next ∙ ap (λ b. b ++ f cell) said
    ∙ append_assoc before (flat_map f (take k cells)) (f cell)
    ∙ ap (λ b. before ++ b) (ap (λ b. flat_map f (take k cells) ++ b) (sym (append-nil (f cell)))
    ∙ sym (flat_map-append f (take k cells) (cell ∷ []))
    ∙ ap (λ c. flat_map f (take k cells ++ c ∷ [])) here
    ∙ ap (flat_map f) (sym (take_more cells k cell lt)))

pub bytes_end : (f : Cell → List ℕ) (cells : List Cell) (k : ℕ) (before out : List ℕ) → length cells ≤ k → out ≡ before ++ flat_map f (take k cells)
    → out ≡ before ++ flat_map f cells
bytes_end f cells k before out all said = said ∙ ap (λ cs. before ++ flat_map f cs) (take_all k cells all)

-- ---- how many

glyph_few : (alt : Bool) (code : ℕ) (two one : List ℕ) → length two ≡ 2 → length one ≡ 1 → length (cond alt two one) ≤ 2
glyph_few true code two one a b = omega (arith, a)
glyph_few false code two one a b = omega (arith, b)

cell_few : (cell : Cell) → length (cell_bytes cell) ≤ 2
cell_few (Field bits) = omega arith
cell_few (Char character) = glyph_few character.alt character.code _ _ refl refl

pub cells_few : (cells : List Cell) → length (cells_bytes cells) ≤ 2 * length cells
cells_few [] = omega arith
cells_few (cell ∷ cells) =
    let len : length (cells_bytes (cell ∷ cells)) ≡ length (cell_bytes cell) + length (cells_bytes cells) =
    ap length (flat_map-cons cell_bytes cell cells) ∙ length-append (cell_bytes cell) (cells_bytes cells) in
    omega (arith, len, cell_few cell, cells_few cells)

address_two : (small : Bool) (a b c d : ℕ) → length (cond small (a ∷ b ∷ []) (c ∷ d ∷ [])) ≡ 2
address_two true a b c d = refl
address_two false a b c d = refl

pub address_length : (mode : Mode) (n address : ℕ) → length (written_address mode n address) ≡ 2
address_length Bits14 n address = address_two (leb n 4096) _ _ _ _
address_length Bits16 n address = refl
