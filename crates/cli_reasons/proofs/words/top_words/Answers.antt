use Rattle.std.proofs.Common.{refl}
use Rattle.cli_reasons.specs.Words.{top_words}
use Rattle.cli_reasons.proofs.words.top_words.Goals as goal

pub returns : goal.returns
unfolding top_words
returns c = refl
