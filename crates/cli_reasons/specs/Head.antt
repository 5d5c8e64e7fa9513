-- Where an input is refused, as a sentence begins.
use Rattle.std.specs.Prelude.{ℕ, List, ◌++◌, codes, decimal}
use Rattle.cli_reasons.specs.declared.head.Place.{Place}
use Rattle.cli_reasons.specs.declared.head.Place.TheVariants.{Whole, Line, Column}

abbrev pub whole_head : List ℕ → List ℕ
whole_head name = codes "term3270: " ++ (name ++ codes ": ")

abbrev pub line_head : List ℕ → ℕ → List ℕ
line_head name line = codes "term3270: " ++ (name ++ (codes ", line " ++ (decimal line ++ codes ": ")))

abbrev pub column_head : List ℕ → ℕ → ℕ → List ℕ
column_head name line column =
    codes "term3270: " ++ (name ++ (codes ", line " ++ (decimal line ++ (codes ", column " ++ (decimal column ++ codes ": ")))))

-- the input's name, and the place in it
abbrev pub head_text : List ℕ → Place → List ℕ
head_text name Whole = whole_head name
head_text name (Line line) = line_head name line
head_text name (Column line column) = column_head name line column
