-- How many cells a field has on the screen.
use Rattle.std.specs.Prelude.{ℕ, ◌==◌, Option, Some, None, List, [], ◌∷◌, ◌++◌, codes, if◌then◌else◌}
use Rattle.std.specs.Fmt.{decimal}
use Rattle.ds_screen.specs.declared.field.FieldAt.{FieldAt}

-- of the first field that begins at a place
abbrev pub length_in : ℕ → List FieldAt → Option ℕ
length_in place [] = None
length_in place (field ∷ fields) = if field.place == place then Some field.length else length_in place fields

abbrev pub length_words : Option ℕ → List ℕ
length_words None = []
length_words (Some length) = codes ", length " ++ decimal length
