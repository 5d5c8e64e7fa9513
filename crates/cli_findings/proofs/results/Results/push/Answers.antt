use Rattle.std.specs.Prelude.{is_ok}
use Rattle.cli_findings.proofs.Logged.{flat_more, plain_more}
use Rattle.cli_findings.proofs.results.Results.push.Goals as goal

pub invariant_of-self : goal.invariant_of-self
invariant_of-self c =
    rw c.push.ensures.items (record {
      plain = plain_more (is_ok c.push.result) c.args.self.now.values.items c.args.value c.args.self.now.plain c.requires.plain;
      flat = flat_more (is_ok c.push.result) c.args.self.now.values.items c.args.value c.args.self.now.flat c.requires.flat;
    })
