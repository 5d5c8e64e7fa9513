use Rattle.std.proofs.Common.{◌≡◌, drop}
use Rattle.std.specs.Prelude.{IfSome, option_map}
use Rattle.cli_suites.specs.Answers.{AreOf}
use Rattle.cli_suites.specs.Report.{no_report, report_seen}
use Rattle.cli_suites.specs.Suite.{all_jobs}
use Rattle.cli_suites.proofs.suite.all_jobs.Given as goal

-- the report so far, with the screens that are left, is that of all, and what is kept is of its paths
abbrev pub invariant-loop-job : goal.invariant-loop-job
invariant-loop-job g l =
    IfSome (g.F.Files.contents l.files) (λ held.
    all_jobs l.form (g.F.Files.base l.files) held l.accepted (option_map (λ name. name.now) l.only) (report_seen l.report) (drop l.job-index l.jobs)
    ≡ all_jobs l.form (g.F.Files.base l.files) held l.accepted (option_map (λ name. name.now) l.only) no_report l.jobs)
    × IfSome (g.F.Files.contents l.files) (λ held. AreOf held l.kept.inputs)
