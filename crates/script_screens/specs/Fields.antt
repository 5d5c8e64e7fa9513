-- The cells of a field.
use Rattle.std.specs.Prelude.{ℕ, List, length, Option, Some, None}
use Rattle.ds_codec.specs.declared.cell.Cell.{Cell}
use Rattle.ds_screen.specs.Ring.{ring_on, ring_distance}
use Rattle.ds_screen.specs.Fields.{attribute_from}

-- the position after the attribute at q
abbrev pub first_of : List Cell → ℕ → ℕ
first_of cells q = ring_on (length cells) q 1

abbrev pub steps_to : List Cell → ℕ → Option ℕ → ℕ
steps_to cells place None = 0
steps_to cells place (Some stop) = ring_distance (length cells) place stop

-- how many cells the field has whose attribute stands at q: up to the next attribute
abbrev pub field_length : List Cell → ℕ → ℕ
field_length cells q = steps_to cells (first_of cells q) (attribute_from cells (first_of cells q))
