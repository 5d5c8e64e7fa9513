use Rattle.std.proofs.Common.{refl}
use Rattle.cli_reasons.specs.Words.{stroke_words}
use Rattle.cli_reasons.proofs.words.stroke_words.Goals as goal

pub returns : goal.returns
unfolding stroke_words
returns c = refl
