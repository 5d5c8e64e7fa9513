use Rattle.std.proofs.Common.{◌≡◌, ◌++◌, take}
use Rattle.term3270.proofs.script.add_bytes.Given as goal

abbrev pub invariant-bytes : goal.invariant-bytes
invariant-bytes l = l.history.items ≡ l.initial.history.items ++ take l.byte-index l.bytes
