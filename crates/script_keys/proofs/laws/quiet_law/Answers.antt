use Rattle.script_keys.proofs.QuietLaws.{types_quietly, presses_quietly}
use Rattle.script_keys.proofs.laws.quiet_law.Goals as goal

pub returns-clause-types : goal.returns-clause-types
returns-clause-types c = types_quietly

pub returns-clause-presses : goal.returns-clause-presses
returns-clause-presses c = presses_quietly
