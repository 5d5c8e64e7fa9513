-- The macros of a source.
use Rattle.std.specs.Prelude.{ℕ, zero, suc, ◌+◌, ◌-◌, List, [], ◌∷◌, Result, Ok, Err}
use Rattle.bms_source.specs.declared.letter.Place.{Place}
use Rattle.bms_source.specs.Statement.{Said, Found, passed, ended, said, statement_in}
use Rattle.bms_source.specs.Rows.{lines_in}
use Rattle.bms_source.specs.Told.{Told, place_at}

-- macros in turn, and what follows them: END or the end of the lines, at its place; or a statement that can't be read
pub record Source : Type 0 where
  pub macros : List Said
  pub end : Result Place Told

abbrev pub ending : Result Place Told → Source
ending end = record { macros = []; end = end }

abbrev pub with_macro : Said → Source → Source
with_macro macro source = record source { macros = macro ∷ source.macros }

abbrev pub source_by : (ℕ → Source) → Result (Found × ℕ) Told → Source
source_by others (Err told) = ending (Err told)
source_by others (Ok (ended place, count)) = ending (Ok place)
source_by others (Ok (passed, count)) = others (count - 1)
source_by others (Ok (said macro, count)) = with_macro macro (others (count - 1))

-- the statements of the lines behind so many, of which the first has this number
abbrev pub source_from : ℕ → ℕ → List (List ℕ) → Source
source_from skip number [] = ending (Ok (place_at number 1))
source_from (suc skip) number (line ∷ lines) = source_from skip (number + 1) lines
source_from zero number (line ∷ lines) = source_by (λ skip. source_from skip (number + 1) lines) (statement_in number (line ∷ lines))

-- the macros of a text, up to END
abbrev pub source_of : List ℕ → Source
source_of text = source_from 0 1 (lines_in text)
