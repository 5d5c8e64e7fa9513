-- What decoding an address gives is what the two bytes spell.
use Rattle.std.proofs.Common.{◌≡◌, ◌≢◌, ℕ, eqb, Some, None, refl, sym, arith, ◌⊎◌, inl, inr}
use Rattle.std.proofs.lemmas.Bool.{eqb-true, eqb-false}
use Rattle.ds_codec.specs.declared.size.Mode.{Mode}
use Rattle.ds_codec.specs.declared.size.Mode.TheVariants.{Bits14, Bits16}
use Rattle.ds_codec.specs.Address.{SpellsAddress, IsReserved, address_at, top_bits}
use Rattle.ds_codec.proofs.Steps.{chosen, some_is}

pub address_again : (mode : Mode) (address first second : ℕ) → SpellsAddress mode address first second → address_at mode first second ≡ Some address
address_again Bits14 address first second (inl low) = rw (low.0, low.1) refl
address_again Bits14 address first second (inr (one_or_three, is)) =
    elim one_or_three [
      | inl one ↦ rw (one, is) refl
      | inr three ↦ rw (three, is) refl
    ]
address_again Bits16 address first second is = rw is refl

pub reserved_again : (mode : Mode) (first second : ℕ) → IsReserved mode first → address_at mode first second ≡ None
reserved_again Bits14 first second is = rw is refl
reserved_again Bits16 first second is = absurd is

pub is_reserved : (mode : Mode) (first second : ℕ) → address_at mode first second ≡ None → IsReserved mode first
is_reserved Bits14 first second e =
    elim (chosen (eqb (top_bits first) 0) _ _ _ e) [
      | inl (test, is) ↦ absurd cc
      | inr (test, is) ↦ elim (chosen (eqb (top_bits first) 2) _ _ _ is) [
        | inl (two, none) ↦ eqb-true _ _ two
        | inr (other, none) ↦ absurd cc
      ]
    ]
is_reserved Bits16 first second e = absurd cc

pub address_spelled : (mode : Mode) (first second address : ℕ) → address_at mode first second ≡ Some address → SpellsAddress mode address first second
address_spelled Bits14 first second address e =
    elim (chosen (eqb (top_bits first) 0) _ _ _ e) [
      | inl (test, is) ↦ inl (eqb-true _ _ test, sym (some_is _ _ is))
      | inr (test, is) ↦ elim (chosen (eqb (top_bits first) 2) _ _ _ is) [
        | inl (two, none) ↦ absurd cc
        | inr (other, found) ↦
            let zero : top_bits first ≢ 0 = eqb-false _ _ test in
            let two : top_bits first ≢ 2 = eqb-false _ _ other in
            let left : (top_bits first ≡ 1) ⊎ (top_bits first ≡ 3) = grind arith in
            inr (left, sym (some_is _ _ found))
      ]
    ]
address_spelled Bits16 first second address e = sym (some_is _ _ e)
