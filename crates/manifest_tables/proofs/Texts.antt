-- Bytes that are no text.
use Rattle.std.proofs.Common.{◌≡◌, ℕ, List, true, false, refl}
use Rattle.std.specs.Str.{is_utf8, IsUtf8}
use Rattle.std.proofs.lemmas.Str.{IsUtf8-from_is_utf8}

pub is_no_text : (bytes : List ℕ) → (IsUtf8 bytes → ⊥) → is_utf8 bytes ≡ false
is_no_text bytes never =
    elim (is_utf8 bytes) as (λ b. is_utf8 bytes ≡ b → b ≡ false) [
      | true ↦ λ is. absurd (never (IsUtf8-from_is_utf8 bytes is))
      | false ↦ λ differs. refl
    ] refl
