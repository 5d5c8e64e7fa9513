use Rattle.tn_wire.proofs.Streams.{none_after_fault, has_one_fault}
use Rattle.tn_wire.proofs.laws.one_fault.Goals as goal

pub returns-clause-one : goal.returns-clause-one
returns-clause-one c = has_one_fault

pub returns-clause-last : goal.returns-clause-last
returns-clause-last c = none_after_fault
