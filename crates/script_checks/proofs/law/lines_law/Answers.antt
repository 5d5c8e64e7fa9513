use Rattle.script_checks.proofs.SaidWhole.{checks_are_lines, reports_are_lines}
use Rattle.script_checks.proofs.law.lines_law.Goals as goal

pub returns-clause-checks : goal.returns-clause-checks
returns-clause-checks c = checks_are_lines

pub returns-clause-reports : goal.returns-clause-reports
returns-clause-reports c = reports_are_lines
