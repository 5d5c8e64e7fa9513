-- Digits, items and pictures, by what stands at their front.
use Rattle.std.proofs.Common.{◌≡◌, ◌≤◌, ◌<◌, ◌+◌, ◌-◌, ◌*◌, ◌^◌, ℕ, zero, suc, true, false, cond, ◌==◌, List, [], ◌∷◌, ◌++◌, length, take, drop, get_or, Option, Some, None, refl, ap, sym, ◌∙◌, subst, append_assoc, arith}
use Rattle.std.proofs.Math.Nat.{pow-suc, mul-le-mul_right, one-le-pow, le-mul_of_pos_right}
use Rattle.bms_source.specs.declared.letter.Letter.{Letter}
use Rattle.std.proofs.lemmas.Grind.{common_steps}
use Rattle.bms_source.specs.Words.{is_digit}
use Rattle.bms_map.specs.Values.{comma_in, digits_from, if_within, ◌>>?◌}
use Rattle.bms_map.specs.Pictures.{positions_in, length_from}
use Rattle.bms_map.specs.Texts.{Read, before, byte_of, bytes_in}
use Rattle.bms_map.proofs.TextLaws.{behind, behind_before}
use Rattle.bms_map.specs.Lists.{items_of, cut, cut_by, with_letter}

digit_next : (n d p most : ℕ) → d ≤ 9 → (n + 1) * (p * 10) ≤ most → (n * 10 + d + 1) * p ≤ most
digit_next n d p most few within =
    let more : (n * 10 + d + 1) * p ≤ (n * 10 + 10) * p = mul-le-mul_right p (omega (arith, few)) in
    omega (arith, more, within)

pub digit_within : (n d k most : ℕ) → d ≤ 9 → (n + 1) * 10 ^ suc k ≤ most → (n * 10 + d + 1) * 10 ^ k ≤ most
digit_within n d k most few within = digit_next n d (10 ^ k) most few (subst (λ (p : ℕ). (n + 1) * p ≤ most) (pow-suc 10 k) within)

pub digit_fits : (n k most : ℕ) → (n + 1) * 10 ^ k ≤ most → n + 1 ≤ most
digit_fits n k most within =
    let one : n + 1 ≤ (n + 1) * 10 ^ k = le-mul_of_pos_right (n + 1) (omega (arith, one-le-pow k 10 (omega arith))) in omega (arith, one, within)

pub others_are : {X : Type 0} (a : X) (rs : List X) → take (length (a ∷ rs) - 1) (drop 1 (a ∷ rs)) ≡ rs
others_are a rs = grind (arith, common_steps)

two_others : {X : Type 0} (a b : X) (rs : List X) → take (length (a ∷ b ∷ rs) - 2) (drop 2 (a ∷ b ∷ rs)) ≡ rs
two_others a b rs = grind (arith, common_steps)

pub next_small : (n d most : ℕ) (rest : List Letter) → 1 ≤ length rest → d ≤ 9 → (n + 1) * 10 ^ length rest ≤ most
    → (n * 10 + d + 1) * 10 ^ length (take (length rest - 1) (drop 1 rest)) ≤ most
next_small n d most [] some few within = absurd (omega (arith, some))
next_small n d most (a ∷ rs) some few within =
    subst (λ (l : List Letter). (n * 10 + d + 1) * 10 ^ length l ≤ most) (sym (others_are a rs)) (digit_within n d (length rs) most few within)

pub next_fits : (n d most : ℕ) (rest : List Letter) → 1 ≤ length rest → d ≤ 9 → (n + 1) * 10 ^ length rest ≤ most → n * 10 + d + 1 ≤ most
next_fits n d most rest some few within = digit_fits (n * 10 + d) (length (take (length rest - 1) (drop 1 rest))) most (next_small n d most rest some few within)

pub digit_small : (c : ℕ) → true ≡ is_digit c → c - 48 ≤ 9
digit_small c e = grind (arith, e)

pub digit_value : (r c : ℕ) → true ≡ is_digit c → r ≡ c - 48 → r ≤ 9
digit_value r c e is = omega (arith, is, digit_small c e)

pub digits_next : (n r : ℕ) (rest : List Letter) (d : Letter) (due : Option ℕ) → 1 ≤ length rest → true ≡ is_digit (get_or rest 0 d).code → r ≡ (get_or rest 0 d).code - 48
    → digits_from n rest ≡ due → digits_from (n * 10 + r) (take (length rest - 1) (drop 1 rest)) ≡ due
digits_next n r [] d due some is r_is same = absurd (omega (arith, some))
digits_next n r (a ∷ rs) d due some is r_is same =
    ap (digits_from (n * 10 + r)) (others_are a rs) ∙ ap (λ (m : ℕ). digits_from (n * 10 + m) rs) r_is
    ∙ ap (λ b. cond b (digits_from (n * 10 + (a.code - 48)) rs) None) is ∙ same

-- ---- items

abbrev pub items_by : List Letter → Option (List Letter × List Letter) → List (List Letter)
items_by letters None = letters ∷ []
items_by letters (Some parts) = parts.0 ∷ items_of parts.1

cons_cut : (a : Letter) (others item after : List Letter) → with_letter a (items_by others (cut_by item after)) ≡ items_by (a ∷ others) (cut_by (a ∷ item) after)
cons_cut a others item [] = refl
cons_cut a others item (comma ∷ after) = refl

pub items_cut : (letters : List Letter) → items_of letters ≡ items_by letters (cut letters)
items_cut [] = refl
items_cut (a ∷ others) =
    elim (a.code == 44) as (λ b. cond b ([] ∷ items_of others) (with_letter a (items_of others))
    ≡ items_by (a ∷ others) (cut_by (take (cond b 0 (1 + comma_in others)) (a ∷ others)) (drop (cond b 0 (1 + comma_in others)) (a ∷ others)))) [
      | true ↦ refl
      | false ↦ subst (λ (n : ℕ). with_letter a (items_of others) ≡ items_by (a ∷ others) (cut_by (take n (a ∷ others)) (drop n (a ∷ others)))) (one_more (comma_in others))
          (ap (with_letter a) (items_cut others) ∙ cons_cut a others (take (comma_in others) others) (drop (comma_in others) others))
    ]
  where
    one_more : (n : ℕ) → suc n ≡ 1 + n
    one_more n = omega arith

pub items_next : (words new : List (List Letter)) (item others rest : List Letter) (due : List (List Letter)) → new ≡ words ++ item ∷ [] → Some (item, others) ≡ cut rest
    → words ++ items_of rest ≡ due → new ++ items_of others ≡ due
items_next words new item others rest due pushed is same =
    ap (λ (w : List (List Letter)). w ++ items_of others) pushed ∙ append_assoc words (item ∷ []) (items_of others)
    ∙ ap (λ (l : List (List Letter)). words ++ l) (sym (items_cut rest ∙ ap (items_by rest) (sym is))) ∙ same

pub items_last : (words new : List (List Letter)) (rest : List Letter) (due : List (List Letter)) → new ≡ words ++ rest ∷ [] → None ≡ cut rest → words ++ items_of rest ≡ due → new ≡ due
items_last words new rest due pushed is same = pushed ∙ ap (λ (l : List (List Letter)). words ++ l) (sym (items_cut rest ∙ ap (items_by rest) (sym is))) ∙ same

-- ---- pictures

pub is_some_list : {X : Type 0} (xs : List X) → (length xs == 0) ≡ false → 1 ≤ length xs
is_some_list [] none = absurd (let e = none in cc)
is_some_list (x ∷ xs) none = omega arith

pub picture_next : (symbols so_far : ℕ) (rest others : List Letter) (positions more : ℕ) (due : Option ℕ) → 1 ≤ length rest → Some (positions, others) ≡ positions_in rest
    → Some more ≡ if_within 0 256 (so_far + positions) → length others < length rest → length rest ≤ symbols → length_from symbols so_far rest ≡ due
    → (fewer : ℕ) × (length others ≤ fewer) × (length_from fewer more others ≡ due)
picture_next symbols so_far [] others positions more due some found within shorter enough same = absurd (omega (arith, some))
picture_next zero so_far (a ∷ rs) others positions more due some found within shorter enough same = absurd (omega (arith, some, enough))
picture_next (suc fewer) so_far (a ∷ rs) others positions more due some found within shorter enough same = (
  fewer,
  omega (arith, shorter, enough),
  ap (λ o. o >>? λ n. length_from fewer n others) within
      ∙ ap (λ o. o >>? λ found_. if_within 0 256 (so_far + found_.0) >>? λ n. length_from fewer n found_.1) found ∙ same,
)

-- ---- pairs of digits

pub bytes_pushed : (front pushed : List ℕ) (rest : List Letter) (d : Letter) (byte : ℕ) (due : Read) → 2 ≤ length rest → behind front (bytes_in rest) ≡ due
    → Some byte ≡ byte_of (get_or rest 0 d).code (get_or rest 1 d).code → pushed ≡ front ++ byte ∷ []
    → behind pushed (bytes_in (take (length rest - 2) (drop 2 rest))) ≡ due
bytes_pushed front pushed [] d byte due some same is more = absurd (omega (arith, some))
bytes_pushed front pushed (a ∷ []) d byte due some same is more = absurd (omega (arith, some))
bytes_pushed front pushed (a ∷ b ∷ rs) d byte due some same is more =
    ap (λ (p : List ℕ). behind p (bytes_in (take (length (a ∷ b ∷ rs) - 2) (drop 2 (a ∷ b ∷ rs))))) more
    ∙ ap (λ (l : List Letter). behind (front ++ byte ∷ []) (bytes_in l)) (two_others a b rs)
    ∙ sym (behind_before front byte a.place (bytes_in rs))
    ∙ ap (λ (o : Option ℕ). behind front (before o a.place (bytes_in rs))) is ∙ same
