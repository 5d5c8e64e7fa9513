use Rattle.std.proofs.Common.{◌≡◌, ◌<◌, ◌≤◌, ◌/◌, ◌∙◌, ℕ, eqb, cond, Some, length, get_or, set, sym, ap, subst, arith}
use Rattle.ds_places.specs.Places.{at_place, IsRising}
use Rattle.ds_places.specs.Pages.{lists_of, rooms_of, list_at, IsBlock, Alters}
use Rattle.ds_places.proofs.BlockLaws.{block_here, block_read, room_read, altered, count_lists}
use Rattle.ds_places.proofs.PageLaws.{block_room}
use Rattle.ds_places.proofs.blocks.store_in.Goals as goal

pub store-requires-clause-room : goal.store-requires-clause-room
store-requires-clause-room g c = λ none.
    let place = g.T.Placed.place_of in
    let blocks = c.args.blocks.now.items in
    let k : ℕ = c.place.result / 512 in
    let same : k ≡ place c.args.entry / 512 = ap (λ p. p / 512) c.place.ensures in
    let was = c.index_mut.result.now in
    let inside : k < length blocks = omega (arith, same, c.requires.below, count_lists blocks) in
    let is = block_read blocks k was inside c.index_mut.ensures.value in
    let own : IsBlock place k (list_at (lists_of blocks) k) = subst (λ j. IsBlock place j (list_at (lists_of blocks) j)) (sym same) c.requires.own in
    let few : length (list_at (lists_of blocks) k) < 512 = block_room place k (place c.args.entry) (list_at (lists_of blocks) k) own (sym same) (ap (λ l. at_place place l (place c.args.entry)) (sym is) ∙ none) in
    let room : 512 ≤ get_or (rooms_of blocks) k 0 = subst (λ j. 512 ≤ get_or (rooms_of blocks) j 0) (sym same) c.requires.roomy in
    omega (arith, few, ap length is, room, room_read blocks k was inside c.index_mut.ensures.value)

pub returns-clause-stored : goal.returns-clause-stored
returns-clause-stored g c = λ q.
    let place = g.T.Placed.place_of in
    let blocks = c.args.blocks.now.items in
    let k : ℕ = c.place.result / 512 in
    let same : k ≡ place c.args.entry / 512 = ap (λ p. p / 512) c.place.ensures in
    let was = c.index_mut.result.now in
    let v = c.store.new.entries in
    let inside : k < length blocks = omega (arith, same, c.requires.below, count_lists blocks) in
    let is = block_read blocks k was inside c.index_mut.ensures.value in
    subst (λ j. at_place place (list_at (lists_of (set blocks k v)) j) q ≡ cond (eqb (place c.args.entry) q) (Some c.args.entry) (at_place place (list_at (lists_of blocks) j) q)) same
    (ap (λ l. at_place place l q) (block_here blocks k v inside) ∙ c.store.ensures.stored q ∙ ap (λ l. cond (eqb (place c.args.entry) q) (Some c.args.entry) (at_place place l q)) is)

pub returns-clause-rising : goal.returns-clause-rising
returns-clause-rising g c =
    let place = g.T.Placed.place_of in
    let blocks = c.args.blocks.now.items in
    let k : ℕ = c.place.result / 512 in
    let same : k ≡ place c.args.entry / 512 = ap (λ p. p / 512) c.place.ensures in
    let v = c.store.new.entries in
    let inside : k < length blocks = omega (arith, same, c.requires.below, count_lists blocks) in
    subst (λ j. IsRising place (list_at (lists_of (set blocks k v)) j)) same (subst (IsRising place) (sym (block_here blocks k v inside)) c.store.ensures.rising)

pub returns-clause-others : goal.returns-clause-others
returns-clause-others g c =
    let blocks = c.args.blocks.now.items in
    let k : ℕ = c.place.result / 512 in
    let same : k ≡ g.T.Placed.place_of c.args.entry / 512 = ap (λ p. p / 512) c.place.ensures in
    let v = c.store.new.entries in
    subst (Alters blocks (set blocks k v)) same (altered blocks k v c.index_mut.result.now c.index_mut.ensures.value c.store.ensures.room)
