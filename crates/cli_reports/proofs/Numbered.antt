-- What passes a test, one after the other, with its number.
use Rattle.std.proofs.Common.{◌≡◌, ℕ, ◌+◌, true, false, List, ◌∷◌, refl}
use Rattle.cli_reports.specs.Numbers.{tells_record, telling_from}

pub none_of : (number : ℕ) (line : List ℕ) (lines : List (List ℕ)) → tells_record line ≡ false
    → telling_from number (line ∷ lines) ≡ telling_from (number + 1) lines
none_of number line lines fails = rw fails refl

pub one_of : (number : ℕ) (line : List ℕ) (lines : List (List ℕ)) → tells_record line ≡ true
    → telling_from number (line ∷ lines) ≡ number ∷ telling_from (number + 1) lines
one_of number line lines passes = rw passes refl
