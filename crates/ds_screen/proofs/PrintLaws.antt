-- The table of printed characters, by computing it at each code.
use Rattle.std.proofs.Common.{◌≡◌, ℕ, ◌<◌, Bool, true, ◌&&◌, eqb, ltb, get_or, refl}
use Rattle.std.proofs.lemmas.Bool.{eqb-true, ltb-true, and_parts}
use Rattle.ds_codec.proofs.Below.{each_below}
use Rattle.ds_screen.specs.declared.shown.TheConstants.{PRINTED}
use Rattle.ds_screen.specs.Shown.{printed_code, printed_in, printed_runs}

abbrev is_right : ℕ → Bool
is_right code = eqb (get_or PRINTED code 0) (printed_in code printed_runs) && ltb (get_or PRINTED code 0) 128

all_right : (code : ℕ) → code < 256 → is_right code ≡ true
all_right code lt = each_below is_right 256 code refl lt

both : (code : ℕ) → code < 256
    → (eqb (get_or PRINTED code 0) (printed_in code printed_runs) ≡ true) × (ltb (get_or PRINTED code 0) 128 ≡ true)
both code lt = and_parts (eqb (get_or PRINTED code 0) (printed_in code printed_runs)) (ltb (get_or PRINTED code 0) 128) (all_right code lt)

pub printed_right : (code : ℕ) → code < 256 → get_or PRINTED code 0 ≡ printed_code code
unfolding printed_code
printed_right code lt = eqb-true _ _ (both code lt).0

pub printed_ascii : (code : ℕ) → code < 256 → get_or PRINTED code 0 < 128
printed_ascii code lt = ltb-true _ _ (both code lt).1
