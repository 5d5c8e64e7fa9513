use Rattle.std.proofs.Common.{◌≡◌, ◌++◌, ◌≤◌, ◌+◌, ◌*◌, length, take}
use Rattle.tn_wire.specs.Telnet.{quoted}
use Rattle.tn_cores.proofs.reply.push_quoted.Given as goal

abbrev pub invariant-loop-word : goal.invariant-loop-word
invariant-loop-word l =
    (l.out.items ≡ l.initial.out.items ++ quoted (take l.word-index l.words))
    × (length l.out.items ≤ length l.initial.out.items + 2 * l.word-index)
