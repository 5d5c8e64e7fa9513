-- The printed words of refusals.
use Rattle.std.specs.Prelude.{ℕ, List, codes}
use Rattle.ds_screen.specs.declared.refused.Why.{Why}
use Rattle.ds_screen.specs.declared.refused.Why.TheVariants.{AddressOutside, NoFieldHere, NotAWrite}

abbrev pub why_words : Why → List ℕ
why_words AddressOutside = codes "A1 AddressOutside"
why_words NoFieldHere = codes "A2 NoFieldHere"
why_words NotAWrite = codes "A3 NotAWrite"
