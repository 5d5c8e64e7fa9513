use Rattle.tn_wire.proofs.Streams.{tells_as_whole, faults_as_whole}
use Rattle.tn_wire.proofs.laws.parts_law.Goals as goal

pub returns-clause-tells : goal.returns-clause-tells
returns-clause-tells c = tells_as_whole

pub returns-clause-faults : goal.returns-clause-faults
returns-clause-faults c = faults_as_whole
