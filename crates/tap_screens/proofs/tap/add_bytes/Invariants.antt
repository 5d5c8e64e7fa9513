use Rattle.std.proofs.Common.{◌≡◌, ◌++◌, drop}
use Rattle.tap_screens.proofs.tap.add_bytes.Given as goal

abbrev pub invariant-bytes : goal.invariant-bytes
invariant-bytes l = l.history.items ++ drop l.byte-index l.bytes ≡ l.fn.history.items ++ l.bytes
