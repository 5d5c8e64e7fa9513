use Rattle.std.proofs.Common.{◌≡◌, ◌<◌, ◌/◌, ℕ, eqb, cond, Some, length, sym, ◌∙◌, ap, subst, arith}
use Rattle.ds_places.specs.Places.{at_place}
use Rattle.ds_places.proofs.EditLaws.{stored_within}
use Rattle.ds_places.specs.Pages.{Paged, entries_in, lists_of, list_at, listed_if, itself}
use Rattle.ds_places.proofs.BlockLaws.{kept_blocks, same_lists}
use Rattle.ds_places.proofs.PageLaws.{used_room, stored_each, stored_flat, stored_listed, rises_flat}
use Rattle.ds_places.proofs.pages.Pages.store.Goals as goal

pub note-requires-clause-listed : goal.note-requires-clause-listed
note-requires-clause-listed g c =
    c.self.invariant.0.listed (c.place-number.result / 512)
    ∙ ap (listed_if (c.place-number.result / 512)) (sym (c.block.ensures ∙ ap (λ bs. list_at (lists_of bs) (c.place-number.result / 512)) c.deref.ensures.value))

pub note-requires-clause-room : goal.note-requires-clause-room
note-requires-clause-room g c = λ none.
    let lists = lists_of c.self.inside.blocks.items in
    let below : g.T.Placed.place_of c.args.entry < c.args.self.now.room = c.requires.below in
    let inside : c.place-number.result / 512 < length lists =
    omega (arith, below, c.place-number.ensures, ap (λ (u : Paged g.row.T.Denot). u.room) c.self.view_is, c.self.invariant.0.enough) in
    let more = used_room lists c.self.inside.used.items (c.place-number.result / 512) c.self.invariant.0.rising c.self.invariant.0.listed inside none in
    omega (arith, more, c.self.invariant.1)

pub store_in-requires : goal.store_in-requires
store_in-requires g c =
    let place = g.T.Placed.place_of in
    let lists = lists_of c.self.inside.blocks.items in
    let below : place c.args.entry < c.args.self.now.room = c.requires.below in
    let inside : place c.args.entry / 512 < length lists = omega (arith, below, ap (λ (u : Paged g.row.T.Denot). u.room) c.self.view_is, c.self.invariant.0.enough) in
    record {
      own = c.self.invariant.0.each (place c.args.entry / 512);
      below = inside;
      roomy = c.self.invariant.0.roomy (place c.args.entry / 512) inside;
    }

pub invariant_of-self : goal.invariant_of-self
invariant_of-self g c =
    let place = g.T.Placed.place_of in
    let old = c.self.inside.blocks.items in
    let new = c.store_in.new.blocks.items in
    let number : c.place-number.result / 512 ≡ place c.args.entry / 512 = ap (λ p. p / 512) c.place-number.ensures in
    let noted = subst (λ n. (k : ℕ) → at_place itself c.note.new.used.items k ≡ cond (eqb n k) (Some n) (at_place itself c.self.inside.used.items k)) number c.note.ensures.noted in (
      kept_blocks place c.self.inside.room old new c.self.inside.used.items c.note.new.used.items c.self.invariant.0 c.store_in.ensures.others.rooms
          (stored_each place (lists_of old) (lists_of new) c.args.entry c.self.invariant.0.each c.store_in.ensures.stored c.store_in.ensures.rising c.store_in.ensures.others.others)
          c.note.ensures.rising
          (stored_listed place (lists_of old) (lists_of new) c.self.inside.used.items c.note.new.used.items c.args.entry c.self.invariant.0.listed noted c.store_in.ensures.stored c.store_in.ensures.others.others),
      omega (arith, same_lists old new c.store_in.ensures.others.rooms, c.self.invariant.1, c.note.ensures.room),
    )

pub returns-clause-stored : goal.returns-clause-stored
returns-clause-stored g c = λ q.
    let place = g.T.Placed.place_of in
    let old = lists_of c.self.inside.blocks.items in
    let new = lists_of c.store_in.new.blocks.items in
    stored_flat place old new c.args.entry c.self.invariant.0.each
    (stored_each place old new c.args.entry c.self.invariant.0.each c.store_in.ensures.stored c.store_in.ensures.rising c.store_in.ensures.others.others)
    c.store_in.ensures.stored c.store_in.ensures.others.others q
    ∙ ap (λ (u : Paged g.row.T.Denot). cond (eqb (place c.args.entry) q) (Some c.args.entry) (at_place place u.entries q)) c.self.view_is

pub returns-clause-rising : goal.returns-clause-rising
returns-clause-rising g c =
    let place = g.T.Placed.place_of in
    let old = lists_of c.self.inside.blocks.items in
    let new = lists_of c.store_in.new.blocks.items in
    rises_flat place new (stored_each place old new c.args.entry c.self.invariant.0.each c.store_in.ensures.stored c.store_in.ensures.rising c.store_in.ensures.others.others)

pub returns-clause-inside : goal.returns-clause-inside
returns-clause-inside g c = λ places below within.
    stored_within g.T.Placed.place_of c.args.self.now.entries (entries_in (lists_of c.store_in.new.blocks.items)) places c.args.entry below within (returns-clause-stored g c)
