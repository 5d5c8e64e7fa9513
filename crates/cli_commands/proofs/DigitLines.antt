-- A line of digits alone tells a record.
use Rattle.std.proofs.Common.{◌≡◌, ◌<◌, ℕ, zero, suc, not, true, false, eqb, List, [], ◌∷◌, length, Some, None, Result, Ok, Err, refl, sym, ap, ◌∙◌, arith}
use Rattle.std.specs.Prelude.{◌==◌}
use Rattle.std.specs.List.{list_all}
use Rattle.std.proofs.lemmas.Bool.Decides.{nat_tests}
use Rattle.std.proofs.lemmas.List.Sums.{list_all-from_AllPass}
use Rattle.hex.specs.Hex.{is_hex_digit, decode_of}
use Rattle.hex.specs.declared.error.FromHexError.{FromHexError}
use Rattle.hex.proofs.HexLemmas.{decode_of-ok}
use Rattle.ds_codec.specs.Digits.{bytes_from}
use Rattle.ds_codec.proofs.Below.{both_true}
use Rattle.cli_commands.specs.declared.input.sizes.SizeLine.{SizeLine}
use Rattle.cli_commands.specs.declared.input.sizes.SizeLine.TheVariants.{Allowed, Refused}
use Rattle.cli_commands.specs.Records.{outbound, without_spaces, digits_told, line_told}
use Rattle.cli_commands.specs.Sizes.{sizes_told}
use Rattle.cli_commands.proofs.PlainLines.{plain_utf8}
use Rattle.cli_commands.proofs.SaidPlain.{run_plain}

-- a digit is no space, no number sign and no s
no_space : (c : ℕ) → is_hex_digit c ≡ true → not (c == 0x20) ≡ true
no_space c h = grind (arith, nat_tests)

no_comment : (c : ℕ) → is_hex_digit c ≡ true → (c == 0x23) ≡ false
no_comment c h = grind (arith, nat_tests)

no_size : (c : ℕ) → is_hex_digit c ≡ true → eqb 115 c ≡ false
no_size c h = grind (arith, nat_tests)

all_kept : (line : List ℕ) → list_all is_hex_digit line ≡ true → without_spaces line ≡ line
all_kept [] h = refl
all_kept (c ∷ cs) h =
    let parts = both_true (is_hex_digit c) (list_all is_hex_digit cs) h in
    rw (no_space c parts.0) (ap (λ (z : List ℕ). c ∷ z) (all_kept cs parts.1))

no_sizes : (size_line : SizeLine) (c : ℕ) (cs : List ℕ) → is_hex_digit c ≡ true → sizes_told size_line (c ∷ cs) ≡ None
no_sizes Refused c cs h = refl
no_sizes Allowed c cs h = rw (no_size c h) refl

-- digits that spell a byte at least
pub digits_tell : (size_line : SizeLine) (line bytes : List ℕ) → decode_of line ≡ Ok bytes → 0 < length bytes → outbound bytes ≡ line_told size_line line
digits_tell size_line [] bytes told some = absurd (omega (arith, some, (decode_of-ok [] bytes told).2))
digits_tell size_line (c ∷ cs) bytes told some =
    let digits = list_all-from_AllPass is_hex_digit (c ∷ cs) (decode_of-ok (c ∷ cs) bytes told).1 in
    let first = (both_true (is_hex_digit c) (list_all is_hex_digit cs) digits).0 in
    let text = plain_utf8 (c ∷ cs) (run_plain (c ∷ cs) bytes told) in
    let whole : digits_told size_line (c ∷ cs) (c ∷ cs) ≡ outbound bytes = rw (no_comment c first, no_sizes size_line c cs first, told) refl in
    let all : line_told size_line (c ∷ cs) ≡ outbound bytes = rw text (ap (λ (d : List ℕ). digits_told size_line (c ∷ cs) d) (all_kept (c ∷ cs) digits) ∙ whole) in
    sym all

-- bytes that were found are those of the digits
pub found_in : (spelled : Result (List ℕ) FromHexError) (bytes : List ℕ) → Some bytes ≡ bytes_from spelled → spelled ≡ Ok bytes
found_in (Ok bytes) other is = let same : other ≡ bytes = cc in rw same refl
found_in (Err e) other is = absurd cc

pub some_length : (n : ℕ) → (n == 0) ≡ false → 0 < n
some_length zero none = absurd cc
some_length (suc n) none = omega arith
