use Rattle.script_checks.proofs.Printed.{says_what_check_prints, says_what_talk_prints}
use Rattle.script_checks.proofs.law.texts_law.Goals as goal

pub returns-clause-check : goal.returns-clause-check
returns-clause-check c = says_what_check_prints

pub returns-clause-talk : goal.returns-clause-talk
returns-clause-talk c = says_what_talk_prints
