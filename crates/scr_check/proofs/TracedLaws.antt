-- Findings with the orders that they come from: the position before a place, and that equal notes tell the same.
use Rattle.std.proofs.Common.{◌≡◌, ◌≢◌, ℕ, suc, ◌+◌, ◌-◌, ◌<◌, Option, Some, None, Result, Ok, Err, List, [], ◌∷◌, ◌++◌, map, length, get_or, drop, refl, sym, ◌∙◌, ap, append_assoc, arith}
use Rattle.std.proofs.Math.Seq.{drop-cons}
use Rattle.std.specs.Prelude.{option_and_then}
use Rattle.std.proofs.lemmas.Bool.Decides.{nat_tests}
use Rattle.ds_screen.specs.Picture.{Picture}
use Rattle.ds_screen.specs.Ring.{ring_back}
use Rattle.scr_layout.specs.Layout.{Declaration}
use Rattle.scr_check.specs.declared.finding.Finding.{Finding}
use Rattle.scr_check.specs.declared.origins.Origin.{Origin}
use Rattle.scr_check.specs.Traced.{attribute_found, ended_on, end_from, traced_by}

pub before_first : (n : ℕ) → ring_back n 0 1 ≡ n - 1
unfolding ring_back
before_first n = omega arith

pub before_later : (n place : ℕ) → place ≢ 0 → ring_back n place 1 ≡ place - 1
unfolding ring_back
before_later n place later = grind (arith, nat_tests)

-- ---- equal notes
same_there : (one other : ℕ → Option Origin) → ((p : ℕ) → one p ≡ other p) → (q : Option ℕ) → option_and_then one q ≡ option_and_then other q
same_there one other same None = refl
same_there one other same (Some p) = same p

same_end : (one other : ℕ → Option Origin) → ((p : ℕ) → one p ≡ other p) → (r : Result Picture Finding) (q : Option ℕ) → end_from one r q ≡ end_from other r q
same_end one other same (Err finding) q = refl
same_end one other same (Ok v) q = same_there one other same (option_and_then (ended_on v) q)

pub same_traced : (one other : ℕ → Option Origin) → ((p : ℕ) → one p ≡ other p) → (r : Result Picture Finding) (layout : Declaration) (finding : Finding)
    → traced_by one r layout finding ≡ traced_by other r layout finding
same_traced one other same r layout finding =
    let q : Option ℕ = attribute_found layout finding in
    ap (λ o. record { finding = finding; origin = o; end = end_from one r q }) (same_there one other same q)
    ∙ ap (λ e. record { finding = finding; origin = option_and_then other q; end = e }) (same_end one other same r q)

pub all_same : (one other : ℕ → Option Origin) → ((p : ℕ) → one p ≡ other p) → (r : Result Picture Finding) (layout : Declaration) (findings : List Finding)
    → map (traced_by one r layout) findings ≡ map (traced_by other r layout) findings
all_same one other same r layout [] = refl
all_same one other same r layout (finding ∷ findings) =
    ap (λ t. t ∷ map (traced_by one r layout) findings) (same_traced one other same r layout finding)
    ∙ ap (λ l. traced_by other r layout finding ∷ l) (all_same one other same r layout findings)

-- ---- one finding more
pub traced_more : {A B : Type 0} (f : A → B) (findings : List A) (i : ℕ) (d : A) (before after : List B) (one : B) → i < length findings
    → one ≡ f (get_or findings i d) → after ≡ before ++ one ∷ [] → after ++ map f (drop (i + 1) findings) ≡ before ++ map f (drop i findings)
traced_more f findings i d before after one lt is pushed =
    let rest = map f (drop (suc i) findings) in
    ap (λ k. after ++ map f (drop k findings)) (let e : i + 1 ≡ suc i = omega arith in e)
    ∙ ap (λ l. l ++ rest) (pushed ∙ ap (λ b. before ++ b ∷ []) is)
    ∙ append_assoc before (f (get_or findings i d) ∷ []) rest
    ∙ sym (ap (λ l. before ++ map f l) (drop-cons findings i d lt))
