-- The bytes of a row, full stops at first, of which one place after the other becomes what is printed there.
use Rattle.std.proofs.Common.{◌≡◌, ℕ, suc, ◌+◌, ◌-◌, ◌<◌, ◌≤◌, List, [], ◌∷◌, ◌++◌, length, map, set, replicate, append_assoc, sym, ◌∙◌, ap, arith}
use Rattle.std.proofs.Math.Seq.{set-append_seam}
use Rattle.std.proofs.lemmas.List.FromFn.{length-map-range_with_len, map-range_with_len_more}
use Rattle.std.specs.List.{range_with_len}
use Rattle.ds_codec.specs.declared.cell.Cell.{Cell}
use Rattle.ds_screen.specs.Shown.{printed_cell}

-- what is printed from a position up to another
abbrev pub printed_part : List Cell → ℕ → ℕ → List ℕ
printed_part cells start at = map (printed_cell cells) (range_with_len start (at - start))

-- the same, and full stops up to the end of the row
abbrev pub part_row : List Cell → ℕ → ℕ → ℕ → List ℕ
part_row cells start columns at = printed_part cells start at ++ replicate (start + columns - at) 46

pub one_more : (cells : List Cell) (start at : ℕ) → start ≤ at → printed_part cells start at ++ printed_cell cells at ∷ [] ≡ printed_part cells start (at + 1)
one_more cells start at so =
    let more : at - start + 1 ≡ at + 1 - start = omega arith in
    sym (map-range_with_len_more (printed_cell cells) start (at - start) at (omega arith)) ∙ ap (λ n. map (printed_cell cells) (range_with_len start n)) more

joined : (cells : List Cell) (start columns at byte : ℕ) → start ≤ at → byte ≡ printed_cell cells at
    → printed_part cells start at ++ byte ∷ replicate (start + columns - (at + 1)) 46 ≡ part_row cells start columns (at + 1)
joined cells start columns at byte so is =
    sym (append_assoc (printed_part cells start at) (byte ∷ []) (replicate (start + columns - (at + 1)) 46))
    ∙ ap (λ xs. xs ++ replicate (start + columns - (at + 1)) 46) (ap (λ b. printed_part cells start at ++ b ∷ []) is ∙ one_more cells start at so)

opened : (cells : List Cell) (start columns at : ℕ) → start ≤ at → at < start + columns
    → part_row cells start columns at ≡ printed_part cells start at ++ 46 ∷ replicate (start + columns - (at + 1)) 46
opened cells start columns at so inside =
    let one : start + columns - at ≡ suc (start + columns - (at + 1)) = omega arith in
    rw one

-- a full stop stays
pub row_kept : (cells : List Cell) (start columns at : ℕ) (bytes : List ℕ) → start ≤ at → at < start + columns
    → bytes ≡ part_row cells start columns at → 46 ≡ printed_cell cells at → bytes ≡ part_row cells start columns (at + 1)
row_kept cells start columns at bytes so inside was is =
    was ∙ opened cells start columns at so inside ∙ joined cells start columns at 46 so is

-- another byte is stored
pub row_stored : (cells : List Cell) (start columns at i byte : ℕ) (bytes : List ℕ) → start ≤ at → at < start + columns → i ≡ at - start
    → bytes ≡ part_row cells start columns at → byte ≡ printed_cell cells at → set bytes i byte ≡ part_row cells start columns (at + 1)
row_stored cells start columns at i byte bytes so inside here was is =
    let front = printed_part cells start at in
    let rest = replicate (start + columns - (at + 1)) 46 in
    let long : i ≡ length front = here ∙ sym (length-map-range_with_len (printed_cell cells) start (at - start)) in
    ap (λ xs. set xs i byte) (was ∙ opened cells start columns at so inside)
    ∙ ap (λ n. set (front ++ 46 ∷ rest) n byte) long
    ∙ set-append_seam front 46 rest byte
    ∙ joined cells start columns at byte so is
