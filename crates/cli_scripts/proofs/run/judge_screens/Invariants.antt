use Rattle.std.proofs.Common.{◌≡◌, ◌++◌, length}
use Rattle.cli_scripts.specs.Judged.{judged_all, reports_of}
use Rattle.cli_scripts.proofs.run.judge_screens.Given as goal

abbrev pub invariant-screens : goal.invariant-screens
invariant-screens l =
    record {
      after : judged_all l.judge l.rest ≡ judged_all l.initial.judge l.screens;
      report : l.text.items ++ reports_of l.judge l.rest ≡ l.initial.text.items ++ reports_of l.initial.judge l.screens;
    }

abbrev pub decreases-screens : goal.decreases-screens
decreases-screens l = length l.rest
