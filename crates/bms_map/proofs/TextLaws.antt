-- The characters of a string, by the one at its front.
use Rattle.std.proofs.Common.{◌≡◌, ◌≤◌, ◌-◌, ℕ, true, false, cond, ◌==◌, List, [], ◌∷◌, ◌++◌, length, take, drop, get_or, Option, Some, None, refl, ap, sym, ◌∙◌, append_assoc, arith}
use Rattle.std.proofs.lemmas.Grind.{common_steps}
use Rattle.bms_source.specs.declared.letter.Letter.{Letter}
use Rattle.bms_source.specs.declared.letter.Place.{Place}
use Rattle.bms_map.specs.Texts.{code_of, is_doubled, after_front, Read, codes, another, bad, before, codes_in}

abbrev pub behind : List ℕ → Read → Read
behind front (codes text) = codes (front ++ text)
behind front another = another
behind front (bad place) = bad place

abbrev pub codes_by : Letter → Option (List Letter) → Read
codes_by a None = bad a.place
codes_by a (Some after) = before (code_of a.code) a.place (codes_in after)

codes_front : (a : Letter) (rest : List Letter) → codes_in (a ∷ rest) ≡ codes_by a (after_front a rest)
codes_front a [] =
    elim (is_doubled a.code) as (λ d. cond d (bad a.place) (before (code_of a.code) a.place (codes [])) ≡ codes_by a (cond d None (Some []))) [ true ↦ refl | false ↦ refl ]
codes_front a (b ∷ rest) =
    elim (is_doubled a.code) as (λ d. cond d (cond (b.code == a.code) (before (code_of a.code) a.place (codes_in rest)) (bad a.place)) (before (code_of a.code) a.place (codes_in (b ∷ rest)))
    ≡ codes_by a (cond d (cond (b.code == a.code) (Some rest) None) (Some (b ∷ rest)))) [
      | true ↦ elim (b.code == a.code) as (λ s. cond s (before (code_of a.code) a.place (codes_in rest)) (bad a.place) ≡ codes_by a (cond s (Some rest) None)) [ true ↦ refl | false ↦ refl ]
      | false ↦ refl
    ]

pub codes_step : (a : Letter) (rest : List Letter) (found : Option (List Letter)) → found ≡ after_front a rest → codes_in (a ∷ rest) ≡ codes_by a found
codes_step a rest found e = codes_front a rest ∙ ap (codes_by a) (sym e)

pub behind_before : (front : List ℕ) (c : ℕ) (place : Place) (read : Read) → behind front (before (Some c) place read) ≡ behind (front ++ c ∷ []) read
behind_before front c place (codes text) = ap codes (sym (append_assoc front (c ∷ []) text))
behind_before front c place another = refl
behind_before front c place (bad at) = refl

others_are : (a : Letter) (rs : List Letter) → take (length (a ∷ rs) - 1) (drop 1 (a ∷ rs)) ≡ rs
others_are a rs = grind (arith, common_steps)

pub string_pushed : (front pushed : List ℕ) (inner rest after : List Letter) (d : Letter) (c : ℕ) → 1 ≤ length rest
    → behind front (codes_in rest) ≡ codes_in inner
    → Some after ≡ after_front (get_or rest 0 d) (take (length rest - 1) (drop 1 rest))
    → Some c ≡ code_of (get_or rest 0 d).code → pushed ≡ front ++ c ∷ []
    → behind pushed (codes_in after) ≡ codes_in inner
string_pushed front pushed inner [] after d c some told whole code more = absurd (omega (arith, some))
string_pushed front pushed inner (a ∷ rs) after d c some told whole code more =
    ap (λ (p : List ℕ). behind p (codes_in after)) more
    ∙ sym (behind_before front c a.place (codes_in after))
    ∙ ap (λ (o : Option ℕ). behind front (before o a.place (codes_in after))) code
    ∙ sym (ap (behind front) (codes_step a rs (Some after) (whole ∙ ap (after_front a) (others_are a rs))))
    ∙ told
