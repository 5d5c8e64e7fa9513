use Rattle.std.proofs.Common.{refl}
use Rattle.cli_reasons.specs.Words.{order_words}
use Rattle.cli_reasons.proofs.words.order_words.Goals as goal

pub returns : goal.returns
unfolding order_words
returns c = refl
