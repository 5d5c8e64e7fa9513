use Rattle.std.proofs.Common.{◌≡◌, ◌+◌, drop}
use Rattle.cli_commands.specs.Talk.{other_from}
use Rattle.cli_commands.proofs.commands.talk.other_after.Given as goal

abbrev pub invariant-loop-index : goal.invariant-loop-index
invariant-loop-index l = other_from l.geometry (l.index + 1) (drop l.index l.layouts) ≡ other_from l.geometry 1 l.layouts
