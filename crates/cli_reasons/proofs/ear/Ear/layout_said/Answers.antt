use Rattle.std.proofs.Common.{inr, subst}
use Rattle.std.specs.Option.{option_map}
use Rattle.std.specs.String.{string_bytes}
use Rattle.cli_commands.specs.LayoutText.{layout_in}
use Rattle.cli_reasons.specs.SaysLayout.{SaysLayout}
use Rattle.cli_reasons.proofs.HearLaws.{kept_says, whole_kept}
use Rattle.cli_reasons.proofs.ear.Ear.layout_said.Goals as goal

pub returns-clause-said : goal.returns-clause-said
returns-clause-said c past ended =
    let said = option_map (λ text. string_bytes text) c.in_ok-said.said in
    kept_says c.args.name.now past c.args.self.now.kept.items said (whole_kept past c.args.self.now c.if-self.false c.requires (inr ended))
    (subst (λ bytes. SaysLayout c.args.name.now bytes said (layout_in bytes)) c.as_slice.ensures.value c.in_ok-said.ensures.says)
