-- A refused record, as it is printed.
use Rattle.std.specs.Prelude.{ℕ, List, ◌++◌, codes}
use Rattle.std.specs.Fmt.{decimal}
use Rattle.ds_codec.specs.Refused.{why_words as read_words}
use Rattle.ds_screen.specs.Refused.{why_words as apply_words}
use Rattle.ds_terminal.specs.declared.refused.Refused.{Refused}
use Rattle.ds_terminal.specs.declared.refused.Refused.TheVariants.{Read, Apply}

-- the place in the record
abbrev pub refused_at : Refused → ℕ
refused_at (Read refused) = refused.at
refused_at (Apply refused) = refused.at

abbrev pub refused_words : Refused → List ℕ
refused_words (Read refused) = read_words refused.why
refused_words (Apply refused) = apply_words refused.why

abbrev pub refused_text : Refused → List ℕ
refused_text refused = codes "refused at " ++ (decimal (refused_at refused) ++ (codes ": " ++ refused_words refused))
