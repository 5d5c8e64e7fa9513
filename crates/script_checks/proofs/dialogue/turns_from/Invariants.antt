use Rattle.std.proofs.Common.{◌≡◌, ◌++◌, ◌∷◌, map, drop}
use Rattle.cli_commands.specs.TurnsHeld.{lent_held}
use Rattle.tn_session.specs.KeptView.{kept_view}
use Rattle.script_checks.specs.Turns.{later_turns, this_turn}
use Rattle.script_checks.proofs.dialogue.turns_from.Given as goal

-- the turns so far, the one at hand with the rest of it, and those to come
abbrev pub invariant-loop-record : goal.invariant-loop-record
invariant-loop-record l =
    lent_held l.turns.items
    ++ ((map (λ bytes. bytes.now) l.turn.items ++ this_turn (map kept_view (drop l.record-index l.others))) ∷ later_turns (map kept_view (drop l.record-index l.others)))
    ≡ (l.first ∷ this_turn (map kept_view l.others)) ∷ later_turns (map kept_view l.others)
