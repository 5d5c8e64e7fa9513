-- The printed words of refusals.
use Rattle.std.specs.Prelude.{ℕ, List, codes}
use Rattle.ds_codec.specs.declared.refused.Why.{Why}
use Rattle.ds_codec.specs.declared.refused.Why.TheVariants.{Empty, UnknownCommand, StructuredField, NoWcc, UnknownOrder, Truncated, ReservedAddress, BadType, BadCharacter, Trailing}

abbrev pub why_words : Why → List ℕ
why_words Empty = codes "O1 Empty"
why_words UnknownCommand = codes "O2 UnknownCommand"
why_words StructuredField = codes "O3 StructuredField"
why_words NoWcc = codes "O4 NoWcc"
why_words UnknownOrder = codes "O5 UnknownOrder"
why_words Truncated = codes "O6 Truncated"
why_words ReservedAddress = codes "O7 ReservedAddress"
why_words BadType = codes "O8 BadType"
why_words BadCharacter = codes "O9 BadCharacter"
why_words Trailing = codes "O10 Trailing"
