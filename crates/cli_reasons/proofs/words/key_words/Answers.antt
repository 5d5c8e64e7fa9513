use Rattle.std.proofs.Common.{refl}
use Rattle.cli_reasons.specs.Words.{key_words}
use Rattle.cli_reasons.proofs.words.key_words.Goals as goal

pub returns : goal.returns
unfolding key_words
returns c = refl
