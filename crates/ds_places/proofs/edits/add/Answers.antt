use Rattle.std.proofs.Common.{List, ℕ, Ok, Err}
use Rattle.ds_places.proofs.EditLaws.{slot_as, kept_at, added_at, inserted_at, inserted_rises}
use Rattle.ds_places.proofs.edits.add.Goals as goal

pub returns-in-Ok-clause-added : goal.returns-in-Ok-clause-added
returns-in-Ok-clause-added g c =
    let slot = slot_as g.T.Placed.place_of c.args.entries.now.items c.deref.result.now c.place.result c.args.entry c.slot.result (Ok c.in-Ok.field-0) c.deref.ensures.value c.place.ensures c.in-Ok.is c.slot.ensures in
    kept_at g.T.Placed.place_of c.args.entries.now.items c.in-Ok.field-0 c.args.entry c.requires slot

pub returns-in_ok-insert-in-Err-clause-added : goal.returns-in_ok-insert-in-Err-clause-added
returns-in_ok-insert-in-Err-clause-added g c =
    let xs : List g.row.T.Denot = c.args.entries.now.items in
    let i : ℕ = c.in-Err.index in
    let slot = slot_as g.T.Placed.place_of xs c.deref.result.now c.place.result c.args.entry c.slot.result (Err i) c.deref.ensures.value c.place.ensures c.in-Err.is c.slot.ensures in
    added_at g.T.Placed.place_of xs c.insert.new.self.items i c.args.entry c.requires slot
    (inserted_at g.T.Placed.place_of xs c.insert.new.self.items i c.args.entry slot.0 c.in_ok-insert-in-Err.ensures.items)

pub returns-in_ok-insert-in-Err-clause-rising : goal.returns-in_ok-insert-in-Err-clause-rising
returns-in_ok-insert-in-Err-clause-rising g c =
    let xs : List g.row.T.Denot = c.args.entries.now.items in
    let i : ℕ = c.in-Err.index in
    let slot = slot_as g.T.Placed.place_of xs c.deref.result.now c.place.result c.args.entry c.slot.result (Err i) c.deref.ensures.value c.place.ensures c.in-Err.is c.slot.ensures in
    inserted_rises g.T.Placed.place_of xs c.insert.new.self.items i c.args.entry c.requires slot.0 c.in_ok-insert-in-Err.ensures.items slot.2
