use Rattle.std.proofs.Common.{◌≡◌, ◌++◌}
use Rattle.ds_inbound.proofs.Sent.{AreFieldsOf}
use Rattle.demo_screens.specs.Modified.{modified_places}
use Rattle.demo_screens.proofs.SentLaws.{modified_among}
use Rattle.demo_screens.proofs.rehearsal.modified_of.Given as goal

-- the places so far and those of what is left make the whole
abbrev pub invariant-fields : goal.invariant-fields
invariant-fields g l =
    let cells = l.screen.cells in
    record {
      listed : l.places.items ++ modified_among cells l.field-iterator ≡ modified_places cells;
      fields : AreFieldsOf cells l.field-iterator;
    }
