use Rattle.std.proofs.Common.{◌≡◌, ◌<◌, ◌/◌, ◌%◌, ℕ, length-set, slice_index, sym, ◌∙◌, arith}
use Rattle.hex.specs.Hex.{upper_digits}
use Rattle.ds_codec.proofs.DigitPairs.{stored}
use Rattle.order_lines.proofs.Plain.{glyph_at}
use Rattle.order_lines.proofs.print.store_halves.Goals as goal

pub bytes-preserved : goal.bytes-preserved
bytes-preserved c =
    let bytes = c.args.bytes.now in
    let byte = slice_index bytes c.bytes.i in
    let small : byte / 16 < 16 = omega (arith, c.type_inv.bytes c.bytes.i) in
    let least : byte % 16 < 16 = omega arith in
    record {
      long = length-set c.bytes.high c.bytes.i _ ∙ c.bytes.invariant.long;
      as_long = length-set c.bytes.low c.bytes.i _ ∙ c.bytes.invariant.as_long;
      highs = stored (λ k y. y ≡ slice_index upper_digits (slice_index bytes k / 16)) c.bytes.high c.bytes.i _ (omega (arith, c.bytes-test.true, c.bytes.invariant.long, c.requires.high))
          c.bytes.invariant.highs (c.digit.ensures ∙ sym (glyph_at (byte / 16) small));
      lows = stored (λ k y. y ≡ slice_index upper_digits (slice_index bytes k % 16)) c.bytes.low c.bytes.i _ (omega (arith, c.bytes-test.true, c.bytes.invariant.as_long, c.requires.high))
          c.bytes.invariant.lows (c.digit-in-bytes.ensures ∙ sym (glyph_at (byte % 16) least));
    }
