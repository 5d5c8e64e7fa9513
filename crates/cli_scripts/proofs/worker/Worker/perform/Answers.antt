use Rattle.std.proofs.Common.{◌≡◌, ◌∙◌, ℕ, List, Vec, Global, map, sym, ap, subst, arith}
use Rattle.script_keys.specs.Actions as known
use Rattle.script_lines.specs.Actions as lines
use Rattle.script_lines.specs.FoundSeen.{found_seen}
use Rattle.script_screens.specs.declared.lines.Outcome.TheVariants.{Done}
use Rattle.cli_scripts.specs.declared.doing.Step.{Step}
use Rattle.cli_scripts.specs.declared.doing.Step.TheVariants.{Ended}
use Rattle.cli_scripts.specs.declared.worker.Worker.{Worker}
use Rattle.cli_scripts.specs.Performs.{Acted}
use Rattle.cli_scripts.proofs.LineLaws.{shorter}
use Rattle.cli_scripts.proofs.PerformLaws.{did_more}
use Rattle.cli_scripts.proofs.worker.Worker.perform.Goals as goal

acted_so : (name : List ℕ) (given arguments : List (Vec ℕ Global)) (old new : Worker) (step : Step) → given ≡ arguments → step ≡ Ended Done
    → Acted (known.read_action name (map (λ argument. argument.items) given)) old step new
    → Acted (known.read_action name (map (λ argument. argument.items) arguments)) old (Ended Done) new
acted_so name given arguments old new step same is acted =
    subst (λ (s : Step). Acted (known.read_action name (map (λ argument. argument.items) arguments)) old s new) is
    (subst (λ (z : List (Vec ℕ Global)). Acted (known.read_action name (map (λ argument. argument.items) z)) old step new) same acted)

pub actions-preserved : goal.actions-preserved
actions-preserved c =
    let was = c.actions.invariant in
    let here = c.in_ok-other-in-Action.ensures in
    let name = c.in-Action.action.name.now in
    let arguments = map (λ argument. argument.items) c.in-Action.action.arguments.items in
    let next : lines.read_action c.actions.rest.now ≡ lines.action name arguments c.in-Action.after.now =
    sym c.in_ok-next_action.ensures ∙ ap found_seen c.in-Action.is in
    record {
      keeps = (here.keeps.0 ∙ was.keeps.0, here.keeps.1 ∙ was.keeps.1, here.keeps.2 ∙ was.keeps.2, here.keeps.3 ∙ was.keeps.3);
      page = here.page ∙ was.page;
      did = did_more c.args.line.now c.args.self.now c.actions.rest.now c.actions.self name arguments c.in-Action.after.now c.act.new.self was.did next
          (acted_so name c.deref.result.now c.in-Action.action.arguments.items c.actions.self c.act.new.self c.in_ok-other-in-Action.other c.deref.ensures.value
          (c.in-Ended-Done.is ∙ ap Ended c.in-Ended-Done.field-0-is)
          (record {
            page = here.page;
            set = here.set;
            acts = here.acts;
            waits = here.waits;
            says = here.says;
            keys = here.keys;
            texts = here.texts;
          }));
      short = omega (arith, shorter c.actions.rest.now name arguments c.in-Action.after.now next, was.short);
    }
