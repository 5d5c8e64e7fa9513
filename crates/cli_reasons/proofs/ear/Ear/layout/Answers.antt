use Rattle.std.proofs.Common.{subst, ap, ◌∙◌}
use Rattle.cli_commands.specs.Fault.{Gives}
use Rattle.cli_commands.specs.LayoutText.{layout_in}
use Rattle.cli_reasons.proofs.HearLaws.{kept_layout, whole_kept}
use Rattle.cli_reasons.proofs.ear.Ear.layout.Goals as goal

pub returns-clause-heard : goal.returns-clause-heard
returns-clause-heard c past heard is =
    subst (λ due. Gives (λ l. l) c.layout_in.result due)
    (ap layout_in c.as_slice.ensures.value ∙ kept_layout past c.args.self.now.kept.items (whole_kept past c.args.self.now c.if-self.false is heard))
    c.layout_in.ensures
