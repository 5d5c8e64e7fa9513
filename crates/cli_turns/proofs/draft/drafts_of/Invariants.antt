use Rattle.std.proofs.Common.{◌≡◌, ◌-◌}
use Rattle.std.specs.String.{string_bytes}
use Rattle.cli_turns.specs.Drafts.{after_text, drafts_from}
use Rattle.cli_turns.proofs.draft.drafts_of.Given as goal

-- what was drafted, before what is to be
abbrev pub invariant-loop-turn : goal.invariant-loop-turn
invariant-loop-turn l = drafts_from l.fn.text 0 l.fn.count ≡ after_text (string_bytes l.told.text) l.told.status (drafts_from l.fn.text l.turn (l.fn.count - l.turn))
