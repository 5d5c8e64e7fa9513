-- Pairs that can be written.
use Rattle.std.proofs.Common.{◌≡◌, ◌==◌, ℕ, true, false, cond, List, [], ◌∷◌, ◌++◌, Option, Some, None, refl, inl, inr}
use Rattle.std.specs.Prelude.{◌⊎◌}
use Rattle.ds_codec.specs.Address.{six_bit_code}
use Rattle.ds_codec.specs.Order.{is_field_type}
use Rattle.ds_codec.specs.Writing.{are_good_pairs}
use Rattle.bms_map.specs.declared.field.Looks.{Looks}
use Rattle.bms_map.specs.Entries.{effects, pair_if}
use Rattle.bms_map.specs.Laws.{PairsAreGood}

pair_cases : (P : List ℕ → Type 0) (kind : ℕ) (value : Option ℕ) → P [] → ((v : ℕ) → P (kind ∷ v ∷ [])) → P (pair_if kind value)
pair_cases P kind None none some = none
pair_cases P kind (Some v) none some = elim (v == 0) as (λ b. P (cond b [] (kind ∷ v ∷ []))) [ true ↦ none | false ↦ some v ]

all_good : (attribute : ℕ) (looks : Looks)
    → are_good_pairs ((0xC0 ∷ six_bit_code attribute ∷ []) ++ (pair_if 0x41 looks.highlight ++ (pair_if 0x42 looks.color ++ (pair_if 0xC1 looks.validation ++ pair_if 0xC2 looks.outline)))) ≡ true
unfolding is_field_type
all_good attribute looks =
    pair_cases (λ l. are_good_pairs ((0xC0 ∷ six_bit_code attribute ∷ []) ++ (l ++ (pair_if 0x42 looks.color ++ (pair_if 0xC1 looks.validation ++ pair_if 0xC2 looks.outline)))) ≡ true) 0x41 looks.highlight
    (pair_cases (λ l. are_good_pairs ((0xC0 ∷ six_bit_code attribute ∷ []) ++ ([] ++ (l ++ (pair_if 0xC1 looks.validation ++ pair_if 0xC2 looks.outline)))) ≡ true) 0x42 looks.color
    (pair_cases (λ l. are_good_pairs ((0xC0 ∷ six_bit_code attribute ∷ []) ++ ([] ++ ([] ++ (l ++ pair_if 0xC2 looks.outline)))) ≡ true) 0xC1 looks.validation
    (pair_cases (λ l. are_good_pairs ((0xC0 ∷ six_bit_code attribute ∷ []) ++ ([] ++ ([] ++ ([] ++ l)))) ≡ true) 0xC2 looks.outline
    (refl)
    (λ d. refl))
    (λ c. pair_cases (λ l. are_good_pairs ((0xC0 ∷ six_bit_code attribute ∷ []) ++ ([] ++ ([] ++ ((0xC1 ∷ c ∷ []) ++ l)))) ≡ true) 0xC2 looks.outline
    (refl)
    (λ d. refl)))
    (λ b. pair_cases (λ l. are_good_pairs ((0xC0 ∷ six_bit_code attribute ∷ []) ++ ([] ++ ((0x42 ∷ b ∷ []) ++ (l ++ pair_if 0xC2 looks.outline)))) ≡ true) 0xC1 looks.validation
    (pair_cases (λ l. are_good_pairs ((0xC0 ∷ six_bit_code attribute ∷ []) ++ ([] ++ ((0x42 ∷ b ∷ []) ++ ([] ++ l)))) ≡ true) 0xC2 looks.outline
    (refl)
    (λ d. refl))
    (λ c. pair_cases (λ l. are_good_pairs ((0xC0 ∷ six_bit_code attribute ∷ []) ++ ([] ++ ((0x42 ∷ b ∷ []) ++ ((0xC1 ∷ c ∷ []) ++ l)))) ≡ true) 0xC2 looks.outline
    (refl)
    (λ d. refl))))
    (λ a. pair_cases (λ l. are_good_pairs ((0xC0 ∷ six_bit_code attribute ∷ []) ++ ((0x41 ∷ a ∷ []) ++ (l ++ (pair_if 0xC1 looks.validation ++ pair_if 0xC2 looks.outline)))) ≡ true) 0x42 looks.color
    (pair_cases (λ l. are_good_pairs ((0xC0 ∷ six_bit_code attribute ∷ []) ++ ((0x41 ∷ a ∷ []) ++ ([] ++ (l ++ pair_if 0xC2 looks.outline)))) ≡ true) 0xC1 looks.validation
    (pair_cases (λ l. are_good_pairs ((0xC0 ∷ six_bit_code attribute ∷ []) ++ ((0x41 ∷ a ∷ []) ++ ([] ++ ([] ++ l)))) ≡ true) 0xC2 looks.outline
    (refl)
    (λ d. refl))
    (λ c. pair_cases (λ l. are_good_pairs ((0xC0 ∷ six_bit_code attribute ∷ []) ++ ((0x41 ∷ a ∷ []) ++ ([] ++ ((0xC1 ∷ c ∷ []) ++ l)))) ≡ true) 0xC2 looks.outline
    (refl)
    (λ d. refl)))
    (λ b. pair_cases (λ l. are_good_pairs ((0xC0 ∷ six_bit_code attribute ∷ []) ++ ((0x41 ∷ a ∷ []) ++ ((0x42 ∷ b ∷ []) ++ (l ++ pair_if 0xC2 looks.outline)))) ≡ true) 0xC1 looks.validation
    (pair_cases (λ l. are_good_pairs ((0xC0 ∷ six_bit_code attribute ∷ []) ++ ((0x41 ∷ a ∷ []) ++ ((0x42 ∷ b ∷ []) ++ ([] ++ l)))) ≡ true) 0xC2 looks.outline
    (refl)
    (λ d. refl))
    (λ c. pair_cases (λ l. are_good_pairs ((0xC0 ∷ six_bit_code attribute ∷ []) ++ ((0x41 ∷ a ∷ []) ++ ((0x42 ∷ b ∷ []) ++ ((0xC1 ∷ c ∷ []) ++ l)))) ≡ true) 0xC2 looks.outline
    (refl)
    (λ d. refl))))

pub pairs_are_good : PairsAreGood
pairs_are_good attribute looks = elim (effects looks == 0) as
    (λ b. (cond b [] ((0xC0 ∷ six_bit_code attribute ∷ []) ++ (pair_if 0x41 looks.highlight ++ (pair_if 0x42 looks.color ++ (pair_if 0xC1 looks.validation ++ pair_if 0xC2 looks.outline)))) ≡ [])
    ⊎ (are_good_pairs (cond b [] ((0xC0 ∷ six_bit_code attribute ∷ []) ++ (pair_if 0x41 looks.highlight ++ (pair_if 0x42 looks.color ++ (pair_if 0xC1 looks.validation ++ pair_if 0xC2 looks.outline))))) ≡ true)) [
      | true ↦ inl refl
      | false ↦ inr (all_good attribute looks)
    ]
