-- Positions in rows.
use Rattle.std.proofs.Common.{◌≡◌, ◌≢◌, ℕ, ◌+◌, ◌-◌, ◌*◌, ◌/◌, ◌%◌, ◌<◌, ◌≤◌, ap, ◌∙◌, arith}
use Rattle.std.proofs.Math.Nat.{div-lt_iff_lt-mul, mod-add-div', mod-lt, mul-le-mul_right, mul-mod_left}

-- what is left of a row lies on the screen
pub row_fits : (rows cols p : ℕ) → 0 < cols → p < rows * cols → p + (cols - p % cols) ≤ rows * cols
row_fits rows cols p some lt =
    let row : p / cols < rows = (div-lt_iff_lt-mul {k = cols} {x = p} {y = rows} some).1 lt in
    let behind : (p / cols + 1) * cols ≤ rows * cols = mul-le-mul_right cols (omega (arith, row)) in
    let parts : p % cols + p / cols * cols ≡ p = mod-add-div' p cols in
    let small : p % cols < cols = mod-lt p some in
    omega (arith, behind, parts, small)

-- behind a position that doesn't end its row another one stands
pub next_fits : (rows cols p : ℕ) → p < rows * cols → ((p + 1) % cols ≡ 0 → ⊥) → p + 1 < rows * cols
next_fits rows cols p lt other =
    let stop : p + 1 ≢ rows * cols = λ e. other (ap (λ n. n % cols) e ∙ mul-mod_left rows cols) in
    omega (arith, stop)

pub few_cells : (rows cols : ℕ) → rows ≤ 255 → cols ≤ 255 → rows * cols ≤ 65025
few_cells rows cols low narrow =
    let one : rows * cols ≤ 255 * cols = mul-le-mul_right cols low in
    omega (arith, one, narrow)
