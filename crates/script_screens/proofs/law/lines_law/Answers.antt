use Rattle.script_screens.proofs.Sayings.{readings_are_lines}
use Rattle.script_screens.proofs.Connections.{kept_are_lines, queries_are_lines}
use Rattle.script_screens.proofs.law.lines_law.Goals as goal

pub returns-clause-readings : goal.returns-clause-readings
returns-clause-readings c = readings_are_lines

pub returns-clause-kept : goal.returns-clause-kept
returns-clause-kept c = kept_are_lines

pub returns-clause-queries : goal.returns-clause-queries
returns-clause-queries c = queries_are_lines
