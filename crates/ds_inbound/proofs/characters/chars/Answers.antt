use Rattle.ds_inbound.proofs.Glyphs.{characters_few}
use Rattle.ds_inbound.proofs.characters.chars.Goals as goal

pub returns-clause-few : goal.returns-clause-few
returns-clause-few c = characters_few c.args.raw.now
