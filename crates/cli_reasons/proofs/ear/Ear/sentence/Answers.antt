use Rattle.std.proofs.Common.{subst}
use Rattle.std.specs.Prelude.{IfOk}
use Rattle.std.specs.Option.{option_map}
use Rattle.std.specs.String.{string_bytes}
use Rattle.cli_reasons.specs.Hearing.{Says}
use Rattle.cli_reasons.proofs.ear.Ear.sentence.Goals as goal

pub returns-clause-said : goal.returns-clause-said
returns-clause-said c past heard =
    subst (λ which. IfOk c.said.result (λ said. Says which c.args.name.now past (option_map (λ text. string_bytes text) said)))
    c.finish.ensures.lines (c.said.ensures.said past (c.finish.ensures.ended past heard))
