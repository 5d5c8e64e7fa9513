use Rattle.std.proofs.Common.{◌≡◌, ◌++◌, drop}
use Rattle.cli_commands.specs.TurnsHeld.{turns_held, lent_held}
use Rattle.cli_commands.proofs.commands.talk.lent_turns.Given as goal

abbrev pub invariant-loop-records : goal.invariant-loop-records
invariant-loop-records l = lent_held l.all.items ++ turns_held (drop l.records-index l.turns) ≡ turns_held l.turns
