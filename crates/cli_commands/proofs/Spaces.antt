-- A line without a space is its own digits.
use Rattle.std.proofs.Common.{◌≡◌, ◌<◌, ℕ, zero, suc, ◌+◌, ◌==◌, not, cond, Bool, true, false, List, [], ◌∷◌, ◌++◌, take, drop, append_assoc, length, None, Some, refl, sym, ap, ◌∙◌, arith}
use Rattle.std.specs.Prelude.{slice_index}
use Rattle.memchr.specs.Find.{IsFirstByte, is_byte}
use Rattle.cli_commands.specs.Records.{without_spaces}

abbrev kept_by : Bool → ℕ → List ℕ → List ℕ
kept_by space b rest = cond (not space) (b ∷ rest) rest

kept : (line : List ℕ) → ((k : ℕ) → k < length line → ¬ (is_byte 0x20 (slice_index line k) ≡ true)) → without_spaces line ≡ line
kept [] nowhere = refl
kept (b ∷ bs) nowhere =
    elim (b == 0x20) as (λ t. (b == 0x20) ≡ t → kept_by t b (without_spaces bs) ≡ b ∷ bs) [
      | true ↦ λ space. absurd (nowhere 0 (omega arith) space)
      | false ↦ λ space. ap (λ rest. b ∷ rest) (kept bs (λ k below. nowhere (suc k) (omega (arith, below))))
    ] refl

pub without_none : (line : List ℕ) → IsFirstByte (is_byte 0x20) line None → without_spaces line ≡ line
without_none line nowhere = kept line (λ k below. nowhere k (omega arith) below)

some_at : (line : List ℕ) (at : ℕ) → at < length line → ((k : ℕ) → k < at → ¬ (is_byte 0x20 (slice_index line k) ≡ true)) → is_byte 0x20 (slice_index line at) ≡ true
    → without_spaces line ≡ take at line ++ without_spaces (drop (suc at) line)
some_at [] at inside before here = absurd (omega (arith, inside))
some_at (b ∷ bs) zero inside before here = rw here refl
some_at (b ∷ bs) (suc at) inside before here =
    elim (b == 0x20) as (λ t. (b == 0x20) ≡ t → kept_by t b (without_spaces bs) ≡ b ∷ (take at bs ++ without_spaces (drop (suc at) bs))) [
      | true ↦ λ space. absurd (before 0 (omega arith) space)
      | false ↦ λ space. ap (λ rest. b ∷ rest) (some_at bs at (omega (arith, inside)) (λ k below. before (suc k) (omega (arith, below))) here)
    ] refl

-- what stands before the first space, and the rest behind it
pub without_some : (line : List ℕ) (at : ℕ) → IsFirstByte (is_byte 0x20) line (Some at)
    → without_spaces line ≡ take at line ++ without_spaces (drop (at + 1) line)
without_some line at found =
    let one : suc at ≡ at + 1 = omega arith in
    some_at line at found.0.high (λ k below. found.0.before k (omega arith) below) found.1 ∙ ap (λ n. take at line ++ without_spaces (drop n line)) one

-- one word more
pub spaces_on : (put now line rest left : List ℕ) (at : ℕ) → IsFirstByte (is_byte 0x20) rest (Some at) → put ++ without_spaces rest ≡ without_spaces line
    → now ≡ put ++ take at rest → left ≡ drop (at + 1) rest → now ++ without_spaces left ≡ without_spaces line
spaces_on put now line rest left at found so is_now is_left =
    ap (λ l. l ++ without_spaces left) is_now ∙ ap (λ l. (put ++ take at rest) ++ without_spaces l) is_left
    ∙ append_assoc put (take at rest) (without_spaces (drop (at + 1) rest)) ∙ ap (λ l. put ++ l) (sym (without_some rest at found)) ∙ so
