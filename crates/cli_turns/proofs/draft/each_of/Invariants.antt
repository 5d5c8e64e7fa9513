use Rattle.std.proofs.Common.{◌≡◌, ◌-◌, map}
use Rattle.cli_commands.specs.Held.{answer_seen}
use Rattle.cli_turns.specs.Drafts.{behind, each_from}
use Rattle.cli_turns.proofs.draft.each_of.Given as goal

-- what was drafted, before what is to be
abbrev pub invariant-loop-turn : goal.invariant-loop-turn
invariant-loop-turn l = each_from l.fn.text 0 l.fn.count ≡ behind (map answer_seen l.all.items) (each_from l.fn.text l.turn (l.fn.count - l.turn))
