use Rattle.ds_screen.proofs.SoundLaws.{records_stay_sound}
use Rattle.ds_screen.proofs.laws.records_stay_sound.Goals as goal

pub returns : goal.returns
returns c = records_stay_sound
