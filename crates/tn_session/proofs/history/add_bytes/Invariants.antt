use Rattle.std.proofs.Common.{◌≡◌, ◌++◌, take}
use Rattle.tn_session.proofs.history.add_bytes.Given as goal

abbrev pub invariant-loop-byte : goal.invariant-loop-byte
invariant-loop-byte l = l.history.items ≡ l.initial.history.items ++ take l.byte-index l.bytes
