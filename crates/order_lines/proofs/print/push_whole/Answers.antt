use Rattle.hex.proofs.HexLemmas.{IsAscii-encode_with}
use Rattle.order_lines.proofs.Plain.{ascii_digits}
use Rattle.order_lines.proofs.print.push_whole.Goals as goal

pub push_digits-requires : goal.push_digits-requires
push_digits-requires c = rw c.store_digits.ensures (IsAscii-encode_with _ c.args.bytes.now ascii_digits)
