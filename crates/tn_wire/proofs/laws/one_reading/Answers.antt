use Rattle.tn_wire.proofs.Reading as reading
use Rattle.tn_wire.proofs.laws.one_reading.Goals as goal

pub returns : goal.returns
returns c = reading.one_reading
