use Rattle.std.proofs.Common.{◌+◌, ◌-◌, ◌∙◌, ap, sym}
use Rattle.std.specs.String.{string_bytes}
use Rattle.cli_commands.specs.Held.{answer_seen}
use Rattle.cli_commands.specs.Printed.{Printed}
use Rattle.cli_turns.specs.Drafts.{after_text, drafts_from}
use Rattle.cli_turns.proofs.DraftLaws.{drafted, one_less}
use Rattle.cli_turns.proofs.draft.drafts_of.Goals as goal

pub loop-turn-preserved : goal.loop-turn-preserved
loop-turn-preserved c =
    c.loop-turn.invariant
    ∙ ap (λ z. after_text (string_bytes c.loop-turn.told.text) c.loop-turn.told.status (drafts_from c.args.text.now c.loop-turn.turn z))
    (one_less c.args.count c.loop-turn.turn c.loop-turn-test.true)
    ∙ drafted c.args.text.now c.loop-turn.turn (c.args.count - (c.loop-turn.turn + 1)) (string_bytes c.loop-turn.told.text) c.loop-turn.told.status
    (answer_seen c.in_ok-one.one) c.in_ok-one.ensures
    ∙ ap (λ (p : Printed). after_text p.text p.status (drafts_from c.args.text.now (c.loop-turn.turn + 1) (c.args.count - (c.loop-turn.turn + 1)))) (sym c.in_ok-add.ensures)
