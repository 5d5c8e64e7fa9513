-- The printed words of why an answer is not bound.
use Rattle.std.specs.Prelude.{ℕ, List, codes}
use Rattle.scr_check.specs.declared.binding.BindFault.{BindFault}
use Rattle.scr_check.specs.declared.binding.BindFault.TheVariants.{NotDeclared, Longer, Twice, Lead}

abbrev pub bind_words : BindFault → List ℕ
bind_words NotDeclared = codes "B1 NotDeclared"
bind_words Longer = codes "B2 Longer"
bind_words Twice = codes "B3 Twice"
bind_words Lead = codes "B4 Lead"
