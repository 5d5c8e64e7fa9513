use Rattle.ds_keys.proofs.SoundLaws.{keys_stay_sound}
use Rattle.ds_keys.proofs.laws.sound_law.Goals as goal

pub returns : goal.returns
returns c = keys_stay_sound
