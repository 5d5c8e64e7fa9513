use Rattle.std.proofs.Common.{◌≡◌, ◌++◌, drop}
use Rattle.scr_check.specs.TalkSeen.{rounds_of}
use Rattle.cli_commands.specs.Talk.{rounds}
use Rattle.cli_commands.specs.TurnsHeld.{lent_held}
use Rattle.cli_commands.proofs.commands.talk.with_layouts.Given as goal

abbrev pub invariant-loop-index : goal.invariant-loop-index
invariant-loop-index l = rounds_of l.turns.items ++ rounds (lent_held (drop l.index l.records)) (drop l.index l.layouts) ≡ rounds (lent_held l.records) l.layouts
