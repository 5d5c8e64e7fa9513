use Rattle.std.proofs.Common.{length}
use denote.Text.{Utf8}
use denote.Shadow.{shadow}
use Rattle.toml.specs.View.{table_view}
use Rattle.plain_tables.specs.Plain.{GoesOn}
use Rattle.plain_tables.proofs.table.pairs.Given as goal

abbrev pub invariant-pairs : goal.invariant-pairs
invariant-pairs l = shadow (Utf8 l.rest) × GoesOn (table_view l.fn.table) l.fn.s (table_view l.table) l.rest

abbrev pub decreases-pairs : goal.decreases-pairs
decreases-pairs l = length l.rest
