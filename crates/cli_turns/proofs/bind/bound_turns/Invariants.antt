use Rattle.std.proofs.Common.{◌≡◌, drop}
use Rattle.std.specs.String.{string_bytes}
use Rattle.cli_turns.specs.Binds.{bound_from}
use Rattle.cli_turns.specs.Drafts.{after_text}
use Rattle.cli_turns.proofs.bind.bound_turns.Given as goal

-- what was bound, before what is to be
abbrev pub invariant-loop-turn : goal.invariant-loop-turn
invariant-loop-turn l =
    bound_from l.fn.form l.fn.text 0 l.fn.layouts
    ≡ after_text (string_bytes l.told.text) l.told.status (bound_from l.fn.form l.fn.text l.turn (drop l.turn l.fn.layouts))
