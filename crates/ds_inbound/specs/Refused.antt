-- The printed words of refusals.
use Rattle.std.specs.Prelude.{ℕ, List, codes}
use Rattle.ds_inbound.specs.declared.refused.Why.{Why}
use Rattle.ds_inbound.specs.declared.refused.Why.TheVariants.{Empty, UnknownAid, Truncated, BadAddress, BadCharacter, Null}

abbrev pub why_words : Why → List ℕ
why_words Empty = codes "I1 Empty"
why_words UnknownAid = codes "I2 UnknownAid"
why_words Truncated = codes "I3 Truncated"
why_words BadAddress = codes "I4 BadAddress"
why_words BadCharacter = codes "I5 BadCharacter"
why_words Null = codes "I6 Null"
