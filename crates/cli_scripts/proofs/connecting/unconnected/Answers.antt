use Rattle.std.proofs.Common.{◌≡◌, ℕ, List, [], ◌∷◌, ◌++◌, codes, Ok, Err, ap, ◌∙◌, append_assoc}
use Rattle.std.specs.Prelude.{Result, IfOk}
use Rattle.std.specs.declared.alloc.AllocError.{AllocError}
use Rattle.script_screens.specs.declared.lines.Outcome.TheVariants.{Failed}
use Rattle.script_screens.specs.Lines.{failed, data_line, data_lines}
use Rattle.cli_scripts.specs.Answers.{printed_text}
use Rattle.cli_scripts.specs.Says.{EndsSaying, unconnected_text}
use Rattle.cli_scripts.specs.declared.doing.Step.{Step}
use Rattle.cli_scripts.proofs.connecting.unconnected.Goals as goal

both : (r : Result Step AllocError) (old mid new first second text : List ℕ) → mid ≡ old ++ data_line first → text ≡ second
    → IfOk r (λ step. EndsSaying (failed (printed_text text)) step mid new)
    → IfOk r (λ step. EndsSaying (record { texts = first ∷ printed_text second ∷ []; outcome = Failed }) step old new)
both (Ok step) old mid new first second text begins same (is, grows) = (
  is,
  grows ∙ ap (λ z. z ++ data_lines (printed_text text ∷ [])) begins
      ∙ append_assoc old (data_line first) (data_lines (printed_text text ∷ []))
      ∙ ap (λ (t : List ℕ). old ++ (data_line first ++ data_lines (printed_text t ∷ []))) same,
)
both (Err why) old mid new first second text begins same says = says

pub returns : goal.returns
returns c =
    both c.failed.result c.args.saying.now c.say.new.self c.failed.new.saying (printed_text (codes "Connection failed:"))
    (unconnected_text c.args.host.now c.args.why.now) c.deref.result.now c.in_ok-say.ensures
    (c.deref.ensures.value ∙ c.in_ok-push_unconnected.ensures ∙ ap (λ z. z ++ unconnected_text c.args.host.now c.args.why.now) c.new-text.ensures.items)
    c.failed.ensures
