-- What rules cells, the first open one among them, and what is printed of them.
use Rattle.std.proofs.Common.{◌≡◌, ℕ, ◌+◌, ◌-◌, ◌<◌, ◌≤◌, true, false, List, [], ◌∷◌, ◌++◌, length, map, sym, ◌∙◌, ap, arith}
use Rattle.std.proofs.lemmas.List.FromFn.{map-range_with_len_more}
use Rattle.std.specs.Option.{option_map, unwrap_or}
use Rattle.std.specs.List.{range_with_len}
use Rattle.ds_codec.specs.declared.cell.Cell.{Cell}
use Rattle.ds_screen.specs.Ring.{ring_on, ring_back}
use Rattle.ds_screen.specs.Picture.{cell_at}
use Rattle.ds_screen.specs.Fields.{ruling_bits, ruling_after, is_open, first_open}
use Rattle.ds_screen.specs.Shown.{printed_under, printed_cell}
use Rattle.ds_screen.proofs.RingLaws.{least_at, least_none}
use Rattle.ds_screen.proofs.FieldLaws.{ruling_more}

-- what rules a position, by what rules the one before it
pub ruled_here : (cells : List Cell) (at before bits : ℕ) (cell : Cell) → at < length cells → before ≡ ruling_bits cells (ring_back (length cells) at 1)
    → bits ≡ ruling_after before cell → cell ≡ cell_at cells at → bits ≡ ruling_bits cells at
ruled_here cells at before bits cell inside ruled after reads =
    after ∙ ap (λ b. ruling_after b cell) ruled ∙ ap (ruling_after (ruling_bits cells (ring_back (length cells) at 1))) reads ∙ sym (ruling_more cells at inside)

-- ---- the first open one, so many steps on
pub open_at : (cells : List Cell) (p steps at : ℕ) → steps < length cells → at ≡ ring_on (length cells) p steps
    → ((d : ℕ) → d < steps → is_open cells (ring_on (length cells) p d) ≡ false) → is_open cells at ≡ true → at ≡ first_open cells p
unfolding first_open
open_at cells p steps at few here misses hit =
    let n : ℕ = length cells in
    here ∙ sym (ap (λ o. unwrap_or (option_map (ring_on n p) o) 0)
    (least_at n steps (λ d. is_open cells (ring_on n p d)) few misses (ap (is_open cells) (sym here) ∙ hit)))

pub open_nowhere : (cells : List Cell) (p : ℕ) → ((d : ℕ) → d < length cells → is_open cells (ring_on (length cells) p d) ≡ false) → 0 ≡ first_open cells p
unfolding first_open
open_nowhere cells p misses =
    let n : ℕ = length cells in
    sym (ap (λ o. unwrap_or (option_map (ring_on n p) o) 0) (least_none n (λ d. is_open cells (ring_on n p d)) misses))

-- ---- the cells of a row, one more of which is printed
pub row_goes : (cells : List Cell) (start at bits byte : ℕ) (cell : Cell) (before : List ℕ) → start ≤ at → before ≡ map (printed_cell cells) (range_with_len start (at - start))
    → bits ≡ ruling_bits cells at → cell ≡ cell_at cells at → byte ≡ printed_under bits cell
    → before ++ byte ∷ [] ≡ map (printed_cell cells) (range_with_len start (at + 1 - start))
row_goes cells start at bits byte cell before from so ruled reads is =
    let one : byte ≡ printed_cell cells at = is ∙ ap (λ b. printed_under b cell) ruled ∙ ap (printed_under (ruling_bits cells at)) reads in
    let more : at - start + 1 ≡ at + 1 - start = omega arith in
    ap (λ xs. xs ++ byte ∷ []) so ∙ ap (λ b. map (printed_cell cells) (range_with_len start (at - start)) ++ b ∷ []) one
    ∙ sym (map-range_with_len_more (printed_cell cells) start (at - start) at (omega arith))
    ∙ ap (λ n. map (printed_cell cells) (range_with_len start n)) more
