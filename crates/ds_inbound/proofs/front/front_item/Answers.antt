use Rattle.ds_inbound.proofs.Fronts.{front_some, front_within}
use Rattle.ds_inbound.proofs.front.front_item.Goals as goal

pub returns-clause-some : goal.returns-clause-some
returns-clause-some c = front_some c.args.mode c.args.cells c.args.bytes.now c.read_item.result c.read_item.ensures

pub returns-clause-within : goal.returns-clause-within
returns-clause-within c = front_within c.args.mode c.args.cells c.args.bytes.now c.read_item.result c.read_item.ensures
