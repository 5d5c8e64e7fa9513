-- Structured fields, one at a time.
use Rattle.std.proofs.Common.{◌≡◌, ℕ, zero, suc, ◌-◌, ◌<◌, ◌&&◌, if◌then◌else◌, List, [], ◌∷◌, take, drop, length, refl, sym, ◌∙◌, ap, arith}
use Rattle.std.specs.Prelude.{nat_le}
use Rattle.tn_cores.proofs.PairWords.{by_bool}
use Rattle.cli_traces.specs.Fields.{fields_from, fields_in, fields_by, cut_field, field_len, given_len}

skips : (n : ℕ) (bytes : List ℕ) → fields_from n bytes ≡ fields_from 0 (drop n bytes)
skips zero bytes = refl
skips (suc n) [] = refl
skips (suc n) (b ∷ rest) = skips n rest

dropped : (n b : ℕ) (rest : List ℕ) → 0 < n → drop n (b ∷ rest) ≡ drop (n - 1) rest
dropped zero b rest some = absurd (omega (arith, some))
dropped (suc n) b rest some = let is : suc n - 1 ≡ n = omega arith in rw is refl

chosen : (given len : ℕ) → 0 < len → 0 < (if nat_le 3 given && nat_le given len then given else len)
chosen zero len some = some
chosen (suc given) len some = by_bool (nat_le 3 (suc given) && nat_le (suc given) len) (λ e. rw e (omega arith)) (λ e. rw e some)

some_len : (b : ℕ) (rest : List ℕ) → 0 < field_len (b ∷ rest)
unfolding field_len given_len
some_len b rest = chosen (given_len (b ∷ rest)) (length (b ∷ rest)) (omega arith)

pub fields_cut : (bytes : List ℕ) → fields_in bytes ≡ fields_by (cut_field bytes)
fields_cut [] = refl
fields_cut (b ∷ rest) =
    let same : fields_from (field_len (b ∷ rest) - 1) rest ≡ fields_in (drop (field_len (b ∷ rest)) (b ∷ rest)) =
    skips (field_len (b ∷ rest) - 1) rest ∙ ap fields_in (sym (dropped (field_len (b ∷ rest)) b rest (some_len b rest))) in
    ap (λ z. take (field_len (b ∷ rest)) (b ∷ rest) ∷ z) same
