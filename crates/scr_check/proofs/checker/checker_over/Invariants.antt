use Rattle.std.proofs.Common.{◌≡◌, map, take}
use Rattle.scr_check.proofs.checker.checker_over.Given as goal

abbrev pub invariant-loop-bytes : goal.invariant-loop-bytes
invariant-loop-bytes l = l.checker ≡ record { layout = l.layout; records = map (λ bytes. bytes.now) (take l.bytes-index l.records) }
