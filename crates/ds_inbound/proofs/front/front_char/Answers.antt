use Rattle.ds_inbound.proofs.Fronts.{character_some, character_within}
use Rattle.ds_inbound.proofs.front.front_char.Goals as goal

pub returns-clause-some : goal.returns-clause-some
returns-clause-some c = character_some c.args.bytes.now c.read_char.result c.read_char.ensures

pub returns-clause-within : goal.returns-clause-within
returns-clause-within c = character_within c.args.bytes.now c.read_char.result c.read_char.ensures
