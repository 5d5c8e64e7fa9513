use Rattle.std.proofs.Common.{◌≡◌, ◌==◌, ℕ, Some, length, ap, arith, subst, sym, ◌∙◌}
use Rattle.std.specs.Option.{option_map}
use Rattle.hex.specs.Hex.{decode_of}
use Rattle.ds_codec.specs.Digits.{bytes_from}
use Rattle.cli_commands.proofs.DigitLines.{digits_tell, found_in, some_length}
use Rattle.cli_commands.proofs.input.records.line_told.Goals as goal

pub returns-in-Some : goal.returns-in-Some
returns-in-Some c =
    let line = c.args.line.now in
    let found : Some c.in-Some.bytes.items ≡ bytes_from (decode_of line) =
    subst (λ f. option_map (λ bytes. bytes.items) f ≡ bytes_from (decode_of line)) c.in-Some.is c.in_ok-bytes.ensures in
    let empty : c.is_empty.result ≡ (length c.in-Some.bytes.items == 0) = c.is_empty.ensures ∙ ap (λ (n : ℕ). n == 0) (omega arith) in
    digits_tell c.args.size_line line c.in-Some.bytes.items (found_in (decode_of line) c.in-Some.bytes.items found)
    (some_length _ (sym empty ∙ c.if-not-is_empty.true))
