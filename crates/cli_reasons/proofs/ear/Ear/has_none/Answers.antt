use Rattle.std.proofs.Common.{ap, ◌∙◌}
use Rattle.std.specs.Prelude.{nat_eq}
use Rattle.cli_reasons.specs.Hearing.{walked_over}
use Rattle.cli_reasons.proofs.HearLaws.{ended_count}
use Rattle.cli_reasons.proofs.ear.Ear.has_none.Goals as goal

pub returns-then-not-self-clause-counted : goal.returns-then-not-self-clause-counted
returns-then-not-self-clause-counted c awake past heard =
    ap (λ count. nat_eq count 0)
    (ended_count past c.finish.new.self ((c.finish.ensures.ended past heard).1 awake)
    ∙ ap (λ which. (walked_over which past).count) c.finish.ensures.lines)
