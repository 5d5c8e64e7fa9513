-- A six-bit code has the six bits that it stands for, and begins with 01 or 11.
use Rattle.std.proofs.Common.{◌≡◌, ℕ, ◌/◌, ◌%◌, ◌<◌, ◌⊎◌, Bool, true, false, ◌&&◌, ◌||◌, eqb, refl, arith, inl, inr}
use Rattle.std.proofs.lemmas.Bool.{eqb-true}
use Rattle.ds_codec.specs.Address.{six_bit_code, SpellsAddress, top_bits}
use Rattle.ds_codec.specs.declared.size.Mode.TheVariants.{Bits14}
use Rattle.ds_codec.proofs.Below.{each_below, both_true}

abbrev code_is_right : ℕ → Bool
code_is_right value = eqb (six_bit_code value % 64) value && (eqb (top_bits (six_bit_code value)) 1 || eqb (top_bits (six_bit_code value)) 3)

pub either_true : (a b : Bool) → (a || b) ≡ true → (a ≡ true) ⊎ (b ≡ true)
either_true true b e = inl refl
either_true false b e = inr e

codes_are_right : (value : ℕ) → value < 64 → code_is_right value ≡ true
unfolding six_bit_code
codes_are_right value lt = each_below code_is_right 64 value refl lt

pub low_six : (value : ℕ) → value < 64 → six_bit_code value % 64 ≡ value
low_six value lt = eqb-true _ _ (both_true _ _ (codes_are_right value lt)).0

pub top_two : (value : ℕ) → value < 64 → (top_bits (six_bit_code value) ≡ 1) ⊎ (top_bits (six_bit_code value) ≡ 3)
top_two value lt =
    elim (either_true _ _ (both_true _ _ (codes_are_right value lt)).1) [
      | inl one ↦ inl (eqb-true _ _ one)
      | inr three ↦ inr (eqb-true _ _ three)
    ]

pub six_bit_spells : (address : ℕ) → address < 4096 → SpellsAddress Bits14 address (six_bit_code (address / 64)) (six_bit_code (address % 64))
six_bit_spells address lt =
    let high : address / 64 < 64 = omega arith in
    let low : address % 64 < 64 = omega arith in
    inr (top_two (address / 64) high, rw (low_six (address / 64) high, low_six (address % 64) low) (omega arith))
