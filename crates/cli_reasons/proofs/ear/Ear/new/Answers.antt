use Rattle.std.proofs.Common.{refl, sym, ap, ◌∙◌, false}
use Rattle.cli_reasons.specs.Walked.{begins}
use Rattle.cli_reasons.proofs.HearLaws.{none_heard}
use Rattle.cli_reasons.proofs.ear.Ear.new.Goals as goal

pub returns-clause-hears : goal.returns-clause-hears
returns-clause-hears c = (
  refl,
  λ awake. none_heard (record { alloc = c.args.alloc; walk = c.new.result; bytes = 0; kept = c.new-2.result; text = c.new-3.result; is_deaf = false })
      (c.new.ensures ∙ ap begins (sym (ap (λ w. w.lines) c.new.ensures))) c.new-2.ensures.items c.new-3.ensures.items,
)
