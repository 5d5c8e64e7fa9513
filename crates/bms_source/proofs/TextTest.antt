-- Bytes that are no UTF-8 fail the test for it.
use Rattle.std.proofs.Common.{◌≡◌, ℕ, List, Bool, true, false, refl}
use Rattle.std.specs.Str.{is_utf8, IsUtf8}
use Rattle.std.proofs.lemmas.Str.{IsUtf8-from_is_utf8}

by_test : (b : Bool) → (b ≡ true → b ≡ false) → false ≡ b
by_test true h = absurd (let e = h refl in cc)
by_test false h = refl

pub is_no_text : (bytes : List ℕ) → (IsUtf8 bytes → ⊥) → false ≡ is_utf8 bytes
is_no_text bytes no_text = by_test (is_utf8 bytes) (λ e. absurd (no_text (IsUtf8-from_is_utf8 bytes e)))
