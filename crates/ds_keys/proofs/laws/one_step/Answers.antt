use Rattle.ds_keys.proofs.StepLaws.{has_one_step}
use Rattle.ds_keys.proofs.laws.one_step.Goals as goal

pub returns : goal.returns
returns c = has_one_step
