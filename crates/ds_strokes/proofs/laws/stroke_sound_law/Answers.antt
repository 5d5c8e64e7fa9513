use Rattle.ds_strokes.proofs.SoundLaws.{strokes_stay_sound}
use Rattle.ds_strokes.proofs.laws.stroke_sound_law.Goals as goal

pub returns : goal.returns
returns c = strokes_stay_sound
