use Rattle.std.proofs.Common.{◌≡◌, ◌*◌, take, length}
use Rattle.hex.specs.Hex.{encode_upper, upper_digits}
use Rattle.hex.proofs.HexLemmas.{IsAscii-encode_with}
use Rattle.order_lines.proofs.Plain.{ascii_digits, encode-front}
use Rattle.order_lines.proofs.print.push_part.Goals as goal

pub push_digits-requires : goal.push_digits-requires
push_digits-requires c =
    let bytes = c.args.bytes.now in
    let spelled : take (2 * length bytes) c.store_digits.new.digits ≡ encode_upper bytes =
    encode-front upper_digits _ bytes _ _ c.copy_from_slice.ensures.after c.store_digits.ensures in
    rw spelled (IsAscii-encode_with _ bytes ascii_digits)

pub returns : goal.returns
returns c =
    let bytes = c.args.bytes.now in
    let spelled : take (2 * length bytes) c.store_digits.new.digits ≡ encode_upper bytes =
    encode-front upper_digits _ bytes _ _ c.copy_from_slice.ensures.after c.store_digits.ensures in
    rw spelled at c.push_digits.ensures
