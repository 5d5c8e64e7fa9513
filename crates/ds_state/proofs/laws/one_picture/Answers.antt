use Rattle.ds_state.proofs.One.{one_picture}
use Rattle.ds_state.proofs.laws.one_picture.Goals as goal

pub returns : goal.returns
returns c = one_picture
