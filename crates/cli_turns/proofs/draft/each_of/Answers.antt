use Rattle.std.proofs.Common.{◌+◌, ◌-◌, ◌∙◌, [], ◌∷◌, map, ap, sym, Vec, Global}
use Rattle.std.proofs.lemmas.List.{map-append}
use Rattle.cli_commands.specs.declared.output.answer.Answer.{Answer}
use Rattle.cli_commands.specs.Held.{answer_seen}
use Rattle.cli_turns.specs.Drafts.{behind, each_from}
use Rattle.cli_turns.proofs.DraftLaws.{each_drafted, each_fails, one_less}
use Rattle.cli_turns.proofs.draft.each_of.Goals as goal

pub returns-in-Err : goal.returns-in-Err
returns-in-Err c =
    each_fails {A = Vec Answer Global} (λ all. map answer_seen all.items) c.args.text.now c.loop-turn.turn (c.args.count - (c.loop-turn.turn + 1)) (map answer_seen c.loop-turn.all.items) c.in-Err.error _ c.in-Err.ensures
    (c.loop-turn.invariant
    ∙ ap (λ z. behind (map answer_seen c.loop-turn.all.items) (each_from c.args.text.now c.loop-turn.turn z)) (one_less c.args.count c.loop-turn.turn c.loop-turn-test.true))

pub loop-turn-preserved : goal.loop-turn-preserved
loop-turn-preserved c =
    c.loop-turn.invariant
    ∙ ap (λ z. behind (map answer_seen c.loop-turn.all.items) (each_from c.args.text.now c.loop-turn.turn z)) (one_less c.args.count c.loop-turn.turn c.loop-turn-test.true)
    ∙ each_drafted c.args.text.now c.loop-turn.turn (c.args.count - (c.loop-turn.turn + 1)) (map answer_seen c.loop-turn.all.items) (answer_seen c.in-Ok.one) c.in-Ok.ensures
    ∙ ap (λ all. behind all (each_from c.args.text.now (c.loop-turn.turn + 1) (c.args.count - (c.loop-turn.turn + 1))))
    (sym (map-append answer_seen c.loop-turn.all.items (c.in-Ok.one ∷ [])) ∙ ap (map answer_seen) (sym c.in_ok-push-in-Ok.ensures.items))
