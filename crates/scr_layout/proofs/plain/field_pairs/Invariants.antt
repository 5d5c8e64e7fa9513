use Rattle.std.proofs.Common.{length}
use denote.Text.{Utf8}
use denote.Shadow.{shadow}
use Rattle.plain_tables.specs.Plain.{GoesOn}
use Rattle.scr_layout.specs.Section.{members_of}
use Rattle.scr_layout.proofs.plain.field_pairs.Given as goal

abbrev pub invariant-pairs : goal.invariant-pairs
invariant-pairs l = shadow (Utf8 l.rest) × GoesOn (members_of l.fn.section) l.fn.s (members_of l.section) l.rest

abbrev pub decreases-pairs : goal.decreases-pairs
decreases-pairs l = length l.rest
