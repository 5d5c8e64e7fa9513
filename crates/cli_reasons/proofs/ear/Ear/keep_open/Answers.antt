use Rattle.std.proofs.Common.{ap}
use Rattle.cli_reasons.specs.Walked.{walked_of}
use Rattle.cli_reasons.proofs.HearLaws.{hears_on}
use Rattle.cli_reasons.proofs.ear.Ear.keep_open.Goals as goal

pub returns-clause-heard : goal.returns-clause-heard
returns-clause-heard c past is =
    rw (ap (λ ear. walked_of ear.walk) c.in_ok-keep.ensures.frame)
    (hears_on past c.args.bytes.now (walked_of c.args.self.now.walk) c.args.self.now.kept.items c.keep.new.self.kept.items
    c.requires c.in_ok-keep.ensures.kept is)
