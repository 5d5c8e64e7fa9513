use Rattle.std.proofs.Common.{ℕ, List, Ok, Err, sym, refl}
use Rattle.ds_places.proofs.EditLaws.{slot_as, inserted_at, inserted_rises, replaced_at, replaced_rises}
use Rattle.ds_places.proofs.SearchLaws.{held_none}
use Rattle.ds_places.proofs.edits.store.Goals as goal

pub insert_at-requires-clause-within : goal.insert_at-requires-clause-within
insert_at-requires-clause-within g c =
    let xs : List g.row.T.Denot = c.args.entries.now.items in
    let i : ℕ = c.in-Err.index in
    let slot = slot_as g.T.Placed.place_of xs c.deref.result.now c.place.result c.args.entry c.slot.result (Err i) c.deref.ensures.value c.place.ensures c.in-Err.is c.slot.ensures in
    slot.1

pub insert_at-requires-clause-room : goal.insert_at-requires-clause-room
insert_at-requires-clause-room g c =
    let xs : List g.row.T.Denot = c.args.entries.now.items in
    let i : ℕ = c.in-Err.index in
    let slot = slot_as g.T.Placed.place_of xs c.deref.result.now c.place.result c.args.entry c.slot.result (Err i) c.deref.ensures.value c.place.ensures c.in-Err.is c.slot.ensures in
    c.requires.room (sym (held_none g.T.Placed.place_of xs (g.T.Placed.place_of c.args.entry) i c.requires.rising slot))

pub returns-in-Ok-clause-stored : goal.returns-in-Ok-clause-stored
returns-in-Ok-clause-stored g c =
    let slot = slot_as g.T.Placed.place_of c.args.entries.now.items c.deref.result.now c.place.result c.args.entry c.slot.result (Ok c.in-Ok.index) c.deref.ensures.value c.place.ensures c.in-Ok.is c.slot.ensures in
    replaced_at g.T.Placed.place_of c.args.entries.now.items _ c.in-Ok.index c.args.entry c.args.entry c.requires.rising slot.0 slot.1 (slot.2 c.args.entry) refl

pub returns-in-Ok-clause-rising : goal.returns-in-Ok-clause-rising
returns-in-Ok-clause-rising g c =
    let slot = slot_as g.T.Placed.place_of c.args.entries.now.items c.deref.result.now c.place.result c.args.entry c.slot.result (Ok c.in-Ok.index) c.deref.ensures.value c.place.ensures c.in-Ok.is c.slot.ensures in
    replaced_rises g.T.Placed.place_of c.args.entries.now.items _ c.in-Ok.index c.args.entry c.args.entry c.requires.rising slot.0 slot.1 (slot.2 c.args.entry) refl

pub returns-in-Err-clause-stored : goal.returns-in-Err-clause-stored
returns-in-Err-clause-stored g c =
    let xs : List g.row.T.Denot = c.args.entries.now.items in
    let i : ℕ = c.in-Err.index in
    let slot = slot_as g.T.Placed.place_of xs c.deref.result.now c.place.result c.args.entry c.slot.result (Err i) c.deref.ensures.value c.place.ensures c.in-Err.is c.slot.ensures in
    inserted_at g.T.Placed.place_of xs c.insert_at.new.entries.items i c.args.entry slot.0 c.insert_at.ensures.inserted

pub returns-in-Err-clause-rising : goal.returns-in-Err-clause-rising
returns-in-Err-clause-rising g c =
    let xs : List g.row.T.Denot = c.args.entries.now.items in
    let i : ℕ = c.in-Err.index in
    let slot = slot_as g.T.Placed.place_of xs c.deref.result.now c.place.result c.args.entry c.slot.result (Err i) c.deref.ensures.value c.place.ensures c.in-Err.is c.slot.ensures in
    inserted_rises g.T.Placed.place_of xs c.insert_at.new.entries.items i c.args.entry c.requires.rising slot.0 c.insert_at.ensures.inserted slot.2
