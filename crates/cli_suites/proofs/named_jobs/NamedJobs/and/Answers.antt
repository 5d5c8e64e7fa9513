use Rattle.std.proofs.Common.{◌∙◌, ap}
use Rattle.cli_suites.specs.Job.{Asked}
use Rattle.cli_suites.proofs.NameLaws.{names_and}
use Rattle.cli_suites.proofs.named_jobs.NamedJobs.and.Goals as goal

pub invariant_of-result : goal.invariant_of-result
invariant_of-result c =
    names_and c.self.inside.jobs.items c.push.new.self.items c.args.job c.self.inside.names c.insert.new.self c.in_ok-from_str.field-0
    c.in_ok-push.ensures.items (c.in_ok-from_str.ensures.ok ∙ c.as_str.ensures.value ∙ ap (λ (j : Asked). j.name) c.job.view_is) c.in_ok-insert.ensures.updates c.self.invariant
