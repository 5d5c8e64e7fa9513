-- The tables among the values of a list.
use Rattle.std.specs.Prelude.{Bool, true, false, List, [], ◌∷◌}
use Rattle.toml.specs.Data.{Members, Items, no_items, item, table}

-- the tables among the items, in order
abbrev pub tables_in : Items → List Members
tables_in no_items = []
tables_in (item (table fields) rest) = fields ∷ tables_in rest
tables_in (item _ rest) = tables_in rest

-- each item is a table
abbrev pub are_tables : Items → Bool
are_tables no_items = true
are_tables (item (table fields) rest) = are_tables rest
are_tables (item _ rest) = false
