use Rattle.script_keys.proofs.MoveLaws.{moves_free, moves_nothing}
use Rattle.script_keys.proofs.laws.move_law.Goals as goal

pub returns-clause-free : goal.returns-clause-free
returns-clause-free c = moves_free

pub returns-clause-locked : goal.returns-clause-locked
returns-clause-locked c = moves_nothing
