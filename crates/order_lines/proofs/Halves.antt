-- Digits that are stored in turn.
use Rattle.std.proofs.Common.{◌≡◌, ◌<◌, ℕ, suc, ◌+◌, ◌*◌, ◌/◌, ◌%◌, List, [], ◌∷◌, length, slice_index, refl, sym, ◌∙◌, arith}
use Rattle.hex.specs.Hex.{encode_with}

-- each two digits are those of a byte
abbrev AreDigits : List ℕ → List ℕ → List ℕ → Type 0
AreDigits table digits bytes =
    (k : ℕ) → k < length bytes
    → (slice_index digits (2 * k) ≡ slice_index table (slice_index bytes k / 16)) × (slice_index digits (2 * k + 1) ≡ slice_index table (slice_index bytes k % 16))

-- the digits after the first two
behind : (a b k : ℕ) (rest : List ℕ) → slice_index (a ∷ b ∷ rest) (2 * suc k) ≡ slice_index rest (2 * k)
behind a b k rest = let two : 2 * suc k ≡ suc (suc (2 * k)) = omega arith in rw two refl

behind_next : (a b k : ℕ) (rest : List ℕ) → slice_index (a ∷ b ∷ rest) (2 * suc k + 1) ≡ slice_index rest (2 * k + 1)
behind_next a b k rest = let two : 2 * suc k + 1 ≡ suc (suc (2 * k + 1)) = omega arith in rw two refl

pub are_encoded : (table digits bytes : List ℕ) → length digits ≡ 2 * length bytes → AreDigits table digits bytes → digits ≡ encode_with table bytes
unfolding encode_with
are_encoded table [] [] long each = refl
are_encoded table (a ∷ digits) [] long each = absurd (omega (arith, long))
are_encoded table [] (byte ∷ bytes) long each = absurd (omega (arith, long))
are_encoded table (a ∷ []) (byte ∷ bytes) long each = absurd (omega (arith, long))
are_encoded table (a ∷ b ∷ digits) (byte ∷ bytes) long each =
    let first = each 0 (omega arith) in
    let others : digits ≡ encode_with table bytes =
    are_encoded table digits bytes (omega (arith, long))
    (λ k below.
    let here = each (suc k) (omega (arith, below)) in
    (sym (behind a b k digits) ∙ here.0, sym (behind_next a b k digits) ∙ here.1)) in
    rw (first.0, first.1, others) refl
