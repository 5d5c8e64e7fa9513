use Rattle.std.proofs.Common.{◌≡◌, ◌<◌, ◌/◌, ◌%◌, ℕ, length, slice_index}
use Rattle.hex.specs.Hex.{upper_digits}
use Rattle.order_lines.proofs.print.store_halves.Given as goal

abbrev pub invariant-bytes : goal.invariant-bytes
invariant-bytes l =
    record {
      long : length l.high ≡ length l.fn.bytes;
      as_long : length l.low ≡ length l.fn.bytes;
      highs : (k : ℕ) → k < l.i → slice_index l.high k ≡ slice_index upper_digits (slice_index l.fn.bytes k / 16);
      lows : (k : ℕ) → k < l.i → slice_index l.low k ≡ slice_index upper_digits (slice_index l.fn.bytes k % 16);
    }
