use Rattle.std.proofs.Common.{refl}
use Rattle.cli_reasons.specs.Words.{field_words}
use Rattle.cli_reasons.proofs.words.field_words.Goals as goal

pub returns : goal.returns
unfolding field_words
returns c = refl
