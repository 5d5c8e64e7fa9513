use Rattle.std.proofs.Common.{◌≡◌, ◌++◌, drop}
use Rattle.cli_commands.specs.TurnsHeld.{lent_held}
use Rattle.scr_check.specs.TalkSeen.{rounds_of}
use Rattle.script_checks.specs.Turns.{rounds_with}
use Rattle.script_checks.proofs.dialogue.with_layout.Given as goal

abbrev pub invariant-loop-records : goal.invariant-loop-records
invariant-loop-records l = rounds_of l.rounds.items ++ rounds_with l.layout (lent_held (drop l.records-index l.turns)) ≡ rounds_with l.layout (lent_held l.turns)
