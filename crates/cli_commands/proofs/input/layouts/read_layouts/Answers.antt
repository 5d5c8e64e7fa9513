use Rattle.std.proofs.Common.{◌∙◌, ◌+◌, ◌<◌, ℕ, ◌∷◌, [], length, get_or, drop, refl, ap, sym, arith}
use Rattle.std.proofs.lemmas.List.{drop_more, drop-set-lt, length-append}
use Rattle.cli_commands.specs.Talk.{layouts_from}
use Rattle.cli_commands.specs.TurnsHeld.{all_remaining}
use Rattle.cli_commands.proofs.Causes.{set_same, set_fails, fails_on}
use Rattle.cli_commands.proofs.Turned.{first_known, layout_read, layout_fails, layouts_end, into_some, known_none}
use Rattle.cli_commands.proofs.input.layouts.read_layouts.Goals as goal

pub loop-turn-init : goal.loop-turn-init
loop-turn-init g c =
    record {
      cause = refl;
      turn = ap length c.new-layouts.ensures.items;
      so_far = λ texts known. (texts, known, ap (λ ls. layouts_from (length ls) ls texts) c.new-layouts.ensures.items);
    }

pub loop-turn-preserved : goal.loop-turn-preserved
loop-turn-preserved g c =
    let i : ℕ = c.loop-turn.turn in
    let sources = c.loop-turn.sources in
    let inside : i < length sources = omega (arith, c.loop-turn-test.true, c.loop-turn.auto.sources) in
    let one = get_or sources i c.index-sources-turn.result in
    let here = drop_more sources i c.index-sources-turn.result inside in
    record {
      cause = set_same g.L.Source.failures sources i c.index-sources-turn.result c.read_turn_layout.new.source inside c.in-Ok.ensures.cause ∙ c.loop-turn.invariant.cause;
      turn = ap length c.in_ok-push-in-Ok.ensures.items ∙ omega (arith, length-append c.loop-turn.layouts.items (c.in-Ok.layout ∷ []), c.loop-turn.invariant.turn);
      so_far = λ texts known.
          let before = c.loop-turn.invariant.so_far texts known in
          let first = first_known g.L.Source.remaining one (drop (i + 1) sources) before.0 (sym (ap (all_remaining g.L.Source.remaining) here) ∙ before.1) in (
            first.1,
            ap (all_remaining g.L.Source.remaining) (drop-set-lt (i + 1) sources i c.read_turn_layout.new.source (omega arith)) ∙ first.3,
            layout_read g.L.Source.remaining one first.0 i first.1 c.loop-turn.layouts.items c.push.new.self.items c.in-Ok.layout first.2
                c.in-Ok.ensures.layout (sym c.loop-turn.invariant.turn) c.in_ok-push-in-Ok.ensures.items
                ∙ ap (layouts_from (length c.loop-turn.layouts.items) c.loop-turn.layouts.items) (sym first.4) ∙ before.2,
          );
    }

pub returns-in-Err-clause-layouts : goal.returns-in-Err-clause-layouts
returns-in-Err-clause-layouts g c =
    let i : ℕ = c.loop-turn.turn in
    let sources = c.loop-turn.sources in
    let inside : i < length sources = omega (arith, c.loop-turn-test.true, c.loop-turn.auto.sources) in
    let one = get_or sources i c.index-sources-turn.result in
    let here = drop_more sources i c.index-sources-turn.result inside in
    into_some (all_remaining g.L.Source.remaining c.args.sources.now) (λ texts known.
    let before = c.loop-turn.invariant.so_far texts known in
    let first = first_known g.L.Source.remaining one (drop (i + 1) sources) before.0 (sym (ap (all_remaining g.L.Source.remaining) here) ∙ before.1) in
    layout_fails g.L.Source.remaining one first.0 i first.1 texts c.loop-turn.layouts.items c.in-Err.error first.2
    c.in-Err.ensures.layout (sym c.loop-turn.invariant.turn) (ap (layouts_from (length c.loop-turn.layouts.items) c.loop-turn.layouts.items) (sym first.4) ∙ before.2))

pub returns-in-Err-clause-cause : goal.returns-in-Err-clause-cause
returns-in-Err-clause-cause g c =
    let inside : c.loop-turn.turn < length c.loop-turn.sources = omega (arith, c.loop-turn-test.true, c.loop-turn.auto.sources) in
    fails_on _ _ _ c.in-Err.error c.loop-turn.invariant.cause
    (set_fails g.L.Source.failures c.loop-turn.sources c.loop-turn.turn c.index-sources-turn.result c.read_turn_layout.new.source c.in-Err.error inside c.in-Err.ensures.cause)

pub returns-clause-layouts : goal.returns-clause-layouts
returns-clause-layouts g c =
    into_some (all_remaining g.L.Source.remaining c.args.sources.now) (λ texts known.
    let before = c.loop-turn.invariant.so_far texts known in
    let rest = known_none g.L.Source.remaining c.loop-turn.sources c.loop-turn.turn before.0 (omega (arith, c.loop-turn-test.false, c.loop-turn.auto.sources)) before.1 in
    sym before.2 ∙ layouts_end (length c.loop-turn.layouts.items) c.loop-turn.layouts.items before.0 rest)
