use Rattle.std.proofs.Common.{◌<◌, true, arith}
use Rattle.std.proofs.lemmas.Fmt.{hex_byte}
use Rattle.test_words.proofs.printed.push_hex.Goals as goal

pub returns : goal.returns
returns c =
    let small : c.args.byte < 256 = omega arith in
    rw (hex_byte true c.args.byte small) at (rw (c.laid_out.ensures, c.in_radix.ensures) at c.write.ensures.bytes)
