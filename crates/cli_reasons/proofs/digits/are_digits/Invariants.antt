use Rattle.std.proofs.Common.{◌≡◌, ◌<◌, count_by, take}
use Rattle.hex.specs.Hex.{is_hex_digit}
use Rattle.cli_reasons.proofs.digits.are_digits.Given as goal

abbrev pub invariant-bytes : goal.invariant-bytes
invariant-bytes l =
    (l.others ≡ 0 → count_by is_hex_digit (take l.i l.line) ≡ l.i)
    × (0 < l.others → count_by is_hex_digit (take l.i l.line) < l.i)
