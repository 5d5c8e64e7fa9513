-- What a mask leaves of a byte, beside the definitions of its bits.
use Rattle.std.proofs.Common.{◌≡◌, ℕ, ◌*◌, ◌/◌, ◌%◌, ◌<◌, Bool, true, false, not, ◌==◌, refl, ◌∙◌, ap}
use Rattle.std.proofs.lemmas.Bool.{eqb-true}
use Rattle.std.specs.Int.RustNames.{bit_and, bit_or}
use Rattle.ds_codec.specs.Attribute.{is_numeric, with_protected, with_modified}
use Rattle.ds_codec.specs.WriteControl.{restores_keyboard, sounds_alarm}
use Rattle.ds_codec.proofs.Below.{each_below}

abbrev agree : Bool → Bool → Bool
agree true b = b
agree false b = not b

same_if_agree : (a b : Bool) → agree a b ≡ true → a ≡ b
same_if_agree true true e = refl
same_if_agree true false e = absurd cc
same_if_agree false true e = absurd cc
same_if_agree false false e = refl

pub mask_numeric : (bits value : ℕ) → bits < 64 → bits ≡ value → not (bit_and bits 16 == 0) ≡ is_numeric value
mask_numeric bits value lt is =
    same_if_agree _ _ (each_below (λ b. agree (not (bit_and b 16 == 0)) (is_numeric b)) 64 bits refl lt) ∙ ap is_numeric is

pub mask_display : (bits value : ℕ) → bits < 64 → bits ≡ value → bit_and bits 12 ≡ 4 * (value / 4 % 4)
mask_display bits value lt is =
    eqb-true _ _ (each_below (λ b. bit_and b 12 == 4 * (b / 4 % 4)) 64 bits refl lt) ∙ ap (λ b. 4 * (b / 4 % 4)) is

pub mask_set : (bits value : ℕ) → bits < 64 → bits ≡ value → bit_or bits 1 ≡ with_modified value true
mask_set bits value lt is =
    eqb-true _ _ (each_below (λ b. bit_or b 1 == with_modified b true) 64 bits refl lt) ∙ ap (λ b. with_modified b true) is

pub mask_reset : (bits value : ℕ) → bits < 64 → bits ≡ value → bit_and bits 254 ≡ with_modified value false
mask_reset bits value lt is =
    eqb-true _ _ (each_below (λ b. bit_and b 254 == with_modified b false) 64 bits refl lt) ∙ ap (λ b. with_modified b false) is

pub mask_protect : (bits value : ℕ) → bits < 64 → bits ≡ value → bit_or bits 32 ≡ with_protected value true
mask_protect bits value lt is =
    eqb-true _ _ (each_below (λ b. bit_or b 32 == with_protected b true) 64 bits refl lt) ∙ ap (λ b. with_protected b true) is

pub mask_unprotect : (bits value : ℕ) → bits < 64 → bits ≡ value → bit_and bits 223 ≡ with_protected value false
mask_unprotect bits value lt is =
    eqb-true _ _ (each_below (λ b. bit_and b 223 == with_protected b false) 64 bits refl lt) ∙ ap (λ b. with_protected b false) is

pub mask_restores : (wcc value : ℕ) → wcc < 256 → wcc ≡ value → not (bit_and wcc 2 == 0) ≡ restores_keyboard value
mask_restores wcc value lt is =
    same_if_agree _ _ (each_below (λ b. agree (not (bit_and b 2 == 0)) (restores_keyboard b)) 256 wcc refl lt) ∙ ap restores_keyboard is

pub mask_alarm : (wcc value : ℕ) → wcc < 256 → wcc ≡ value → not (bit_and wcc 4 == 0) ≡ sounds_alarm value
mask_alarm wcc value lt is =
    same_if_agree _ _ (each_below (λ b. agree (not (bit_and b 4 == 0)) (sounds_alarm b)) 256 wcc refl lt) ∙ ap sounds_alarm is
