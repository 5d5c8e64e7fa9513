-- Fields one after the other, and the bound on how many there are.
use Rattle.std.proofs.Common.{◌≡◌, ◌≤◌, ◌<◌, ◌+◌, ◌-◌, ◌*◌, ◌==◌, ◌&&◌, nat_lt, nat_le, cond, ◌∙◌, ap, sym, refl, ℕ, zero, suc, arith, Bool, true, false, List, [], ◌∷◌, ◌++◌, length, take, drop, Option, Some, None, option_map, append_assoc, rules}
use Rattle.ds_structured.specs.Fields.{Field, field_of, before_rest, field_cut, cut_at, cut, split, then_fields, fields_within, all_fields}

-- what comes after the field at the front is shorter
abbrev pub Shortens : ℕ → Option (Field × List ℕ) → Type 0
Shortens size None = Unit {0}
Shortens size (Some found) = length found.1 < size

abbrev pub Cuts : ℕ → Option (List ℕ × List ℕ) → Type 0
Cuts size None = Unit {0}
Cuts size (Some parts) = length parts.1 < size

-- fields before others
abbrev pub behind : List Field → Option (List Field) → Option (List Field)
behind fields others = option_map (λ more. fields ++ more) others

by_test : {A : Type 0} (P : A → Type 0) (test : Bool) (y z : A) → P y → P z → P (cond test y z)
by_test P true y z first second = first
by_test P false y z first second = second

drop_short : (count : ℕ) (bytes : List ℕ) → length (drop count bytes) ≤ length bytes
drop_short zero [] = omega arith
drop_short (suc count) [] = omega arith
drop_short zero (b ∷ bytes) = omega arith
drop_short (suc count) (b ∷ bytes) = let shorter = drop_short count bytes in omega (arith, shorter)

cuts_at : (count : ℕ) (more : List ℕ) (size : ℕ) → length more < size → Cuts size (cut_at count more)
cuts_at count more size shorter =
    by_test (Cuts size) (count == 0) (Some (more, []))
    (cond (nat_lt 2 count && nat_le (count - 2) (length more)) (Some (take (count - 2) more, drop (count - 2) more)) None)
    (omega (arith, shorter))
    (by_test (Cuts size) (nat_lt 2 count && nat_le (count - 2) (length more)) (Some (take (count - 2) more, drop (count - 2) more)) None
    (let left = drop_short (count - 2) more in omega (arith, left, shorter)) tt)

cuts : (bytes : List ℕ) → Cuts (length bytes) (cut bytes)
cuts [] = tt
cuts (high ∷ []) = tt
cuts (high ∷ low ∷ more) = cuts_at (high * 256 + low) more (length (high ∷ low ∷ more)) (omega arith)

kept_short : (size : ℕ) (rest : List ℕ) (field : Option Field) → length rest < size → Shortens size (before_rest rest field)
kept_short size rest None shorter = tt
kept_short size rest (Some field) shorter = shorter

shortens_by : (size : ℕ) (parts : Option (List ℕ × List ℕ)) → Cuts size parts → Shortens size (field_cut parts)
shortens_by size None cuts = tt
shortens_by size (Some parts) shorter = kept_short size parts.1 (field_of parts.0) shorter

pub shortens : (bytes : List ℕ) → Shortens (length bytes) (split bytes)
shortens bytes = shortens_by (length bytes) (cut bytes) (cuts bytes)

-- two ways to go on that agree on what is shorter
then_same : (size : ℕ) (found : Option (Field × List ℕ)) (f g : List ℕ → Option (List Field)) → Shortens size found
    → ((rest : List ℕ) → length rest < size → f rest ≡ g rest) → then_fields found f ≡ then_fields found g
then_same size None f g shorter same = refl
then_same size (Some found) f g shorter same = ap (option_map (λ fields. found.0 ∷ fields)) (same found.1 shorter)

-- any bound that is large enough is as good
pub steady : (most enough : ℕ) (bytes : List ℕ) → length bytes ≤ most → length bytes ≤ enough → fields_within most bytes ≡ fields_within enough bytes
unfolding fields_within
steady zero zero [] few others = refl
steady (suc most) zero [] few others = refl
steady zero (suc enough) [] few others = refl
steady (suc most) (suc enough) [] few others = refl
steady zero enough (b ∷ bytes) few others = absurd (omega (arith, few))
steady (suc most) zero (b ∷ bytes) few others = absurd (omega (arith, others))
steady (suc most) (suc enough) (b ∷ bytes) few others =
    then_same (length (b ∷ bytes)) (split (b ∷ bytes)) (fields_within most) (fields_within enough) (shortens (b ∷ bytes))
    (λ rest shorter. steady most enough rest (omega (arith, shorter, few)) (omega (arith, shorter, others)))

-- the field at the front, and then those of the rest
pub one_more_field : (b : ℕ) (bytes : List ℕ) → all_fields (b ∷ bytes) ≡ then_fields (split (b ∷ bytes)) all_fields
unfolding fields_within
one_more_field b bytes =
    then_same (length (b ∷ bytes)) (split (b ∷ bytes)) (fields_within (length bytes)) all_fields (shortens (b ∷ bytes))
    (λ rest shorter. steady (length bytes) (length rest) rest (omega (arith, shorter)) (omega arith))

behind_more : (fields : List Field) (field : Field) (others : Option (List Field))
    → behind fields (option_map (λ more. field ∷ more) others) ≡ behind (fields ++ field ∷ []) others
behind_more fields field None = refl
behind_more fields field (Some others) = ap Some (sym (append_assoc fields (field ∷ []) others))

-- one field more in a walk over the fields
pub field_taken : (fields new : List Field) (field : Field) (bytes rest : List ℕ) (due : Option (List Field)) → new ≡ fields ++ field ∷ []
    → Some (field, rest) ≡ split bytes → behind fields (all_fields bytes) ≡ due → behind new (all_fields rest) ≡ due
field_taken fields new field [] rest due pushed found same = absurd (let e = found in cc)
field_taken fields new field (b ∷ bytes) rest due pushed found same =
    ap (λ xs. behind xs (all_fields rest)) pushed ∙ sym (behind_more fields field (all_fields rest))
    ∙ ap (λ o. behind fields (then_fields o all_fields)) found ∙ ap (behind fields) (sym (one_more_field b bytes)) ∙ same

-- a walk that can't go on
pub field_missing : (fields : List Field) (bytes : List ℕ) (due : Option (List Field)) → 1 ≤ length bytes → None ≡ split bytes
    → behind fields (all_fields bytes) ≡ due → None ≡ due
field_missing fields [] due some found same = absurd (omega (arith, some))
field_missing fields (b ∷ bytes) due some found same =
    ap (λ o. behind fields (then_fields o all_fields)) found ∙ ap (behind fields) (sym (one_more_field b bytes)) ∙ same

-- a walk that is at its end
pub fields_taken : (fields : List Field) (bytes : List ℕ) (due : Option (List Field)) → length bytes ≡ 0
    → behind fields (all_fields bytes) ≡ due → Some fields ≡ due
unfolding fields_within
fields_taken fields [] due none same = ap Some (sym (search rules)) ∙ same
fields_taken fields (b ∷ bytes) due none same = absurd (omega (arith, none))
