use Rattle.std.proofs.Common.{◌≡◌, ◌<◌, ◌≤◌, ◌+◌, ◌/◌, ◌++◌, List, ℕ, true, length, get_or, sym, ◌∙◌, ap, subst, arith}
use Rattle.std.specs.Result.{is_ok}
use Rattle.std.proofs.lemmas.Bool.{cond-true}
use Rattle.ds_places.specs.Places.{at_place, IsRising, IsWithin}
use Rattle.ds_places.specs.Pages.{Paged, lists_of, list_at, listed_if, itself, IsBlock}
use Rattle.ds_places.proofs.BlockLaws.{same_lists, listed_inside}
use Rattle.ds_places.proofs.PageLaws.{block_below, used_below, copy_flat, rises_flat}
use Rattle.ds_places.proofs.pages.Pages.copy_from.Goals as goal

pub copy_blocks-requires-clause-below : goal.copy_blocks-requires-clause-below
copy_blocks-requires-clause-below g c = λ i lt.
    let place = g.T.Placed.place_of in
    let old = c.self.inside.blocks.items in
    let used = c.other.inside.used.items in
    let lists = lists_of c.other.inside.blocks.items in
    let x : ℕ = get_or used i 0 in
    let there = listed_inside lists used i c.other.invariant.0.rising c.other.invariant.0.listed (omega (arith, lt, ap length c.deref-3.ensures.value)) in
    let room = ap (λ (u : Paged g.row.T.Denot). u.room) c.self.view_is in
    let within = subst (λ (u : Paged g.row.T.Denot). IsWithin place c.args.self.now.room u.entries) (sym c.other.view_is) c.requires in
    let below : x < c.args.self.now.room / 512 + 1 = block_below place lists c.args.self.now.room x c.other.invariant.0.each within there.0 in
    let same : get_or c.deref-3.result.now i 0 ≡ x = ap (λ (l : List ℕ). get_or l i 0) c.deref-3.ensures.value in
    omega (arith, same, below, ap (λ n. n / 512) room, c.self.invariant.0.enough, same_lists old c.clear_blocks.new.blocks.items c.clear_blocks.ensures.room)

pub copy_blocks-requires-clause-roomy : goal.copy_blocks-requires-clause-roomy
copy_blocks-requires-clause-roomy g c = λ k lt.
    let old = c.self.inside.blocks.items in
    let new = c.clear_blocks.new.blocks.items in
    subst (λ (r : List ℕ). 512 ≤ get_or r k 0) (sym c.clear_blocks.ensures.room) (c.self.invariant.0.roomy k (omega (arith, lt, same_lists old new c.clear_blocks.ensures.room)))

pub unwrap-requires : goal.unwrap-requires
unwrap-requires g c =
    let place = g.T.Placed.place_of in
    let old = c.self.inside.blocks.items in
    let used = c.other.inside.used.items in
    let lists = lists_of c.other.inside.blocks.items in
    let room = ap (λ (u : Paged g.row.T.Denot). u.room) c.self.view_is in
    let within = subst (λ (u : Paged g.row.T.Denot). IsWithin place c.args.self.now.room u.entries) (sym c.other.view_is) c.requires in
    let few : length used ≤ c.args.self.now.room / 512 + 1 = used_below place lists c.args.self.now.room used c.other.invariant.0.each within c.other.invariant.0.rising c.other.invariant.0.listed in
    c.extend_from_slice.ensures.succeeds
    (omega (arith, few, ap length c.deref-4.ensures.value, c.clear.ensures.len, c.clear.ensures.capacity, ap (λ n. n / 512) room, c.self.invariant.0.enough, c.self.invariant.1))

pub invariant_of-self : goal.invariant_of-self
invariant_of-self g c =
    let place = g.T.Placed.place_of in
    let old = c.self.inside.blocks.items in
    let new = c.copy_blocks.new.blocks.items in
    let lists = lists_of c.other.inside.blocks.items in
    let ok : is_ok c.extend_from_slice.result ≡ true = ap is_ok c.unwrap.ensures in
    let used = c.extend_from_slice.ensures.items ∙ cond-true (is_ok c.extend_from_slice.result) (c.clear.new.self.items ++ c.deref-4.result.now) c.clear.new.self.items ok
    ∙ ap (λ (l : List ℕ). l ++ c.deref-4.result.now) c.clear.ensures.items ∙ c.deref-4.ensures.value in
    let same : (k : ℕ) → list_at (lists_of new) k ≡ list_at lists k = λ k. c.copy_blocks.ensures.copied k ∙ ap (λ bs. list_at (lists_of bs) k) c.deref-2.ensures.value in
    let count : length (lists_of new) ≡ length (lists_of old) = c.copy_blocks.ensures.count ∙ same_lists old c.clear_blocks.new.blocks.items c.clear_blocks.ensures.room in (
      record {
        each = λ k. subst (IsBlock place k) (sym (same k)) (c.other.invariant.0.each k);
        enough = count ∙ c.self.invariant.0.enough;
        roomy = λ k lt. c.copy_blocks.ensures.roomy k (omega (arith, lt, c.copy_blocks.ensures.count));
        rising = subst (IsRising itself) (sym used) c.other.invariant.0.rising;
        listed = λ k. ap (λ (l : List ℕ). at_place itself l k) used ∙ c.other.invariant.0.listed k ∙ sym (ap (listed_if k) (same k));
      },
      omega (arith, count, c.self.invariant.1, c.clear.ensures.capacity, c.extend_from_slice.ensures.capacity),
    )

pub returns-clause-copied : goal.returns-clause-copied
returns-clause-copied g c = λ q.
    let place = g.T.Placed.place_of in
    let lists = lists_of c.other.inside.blocks.items in
    let new = lists_of c.copy_blocks.new.blocks.items in
    let same : (k : ℕ) → list_at new k ≡ list_at lists k = λ k. c.copy_blocks.ensures.copied k ∙ ap (λ bs. list_at (lists_of bs) k) c.deref-2.ensures.value in
    copy_flat place lists new c.other.invariant.0.each (λ k. subst (IsBlock place k) (sym (same k)) (c.other.invariant.0.each k)) same q
    ∙ ap (λ (u : Paged g.row.T.Denot). at_place place u.entries q) c.other.view_is

pub returns-clause-rising : goal.returns-clause-rising
returns-clause-rising g c =
    let place = g.T.Placed.place_of in
    let lists = lists_of c.other.inside.blocks.items in
    let new = lists_of c.copy_blocks.new.blocks.items in
    let same : (k : ℕ) → list_at new k ≡ list_at lists k = λ k. c.copy_blocks.ensures.copied k ∙ ap (λ bs. list_at (lists_of bs) k) c.deref-2.ensures.value in
    rises_flat place new (λ k. subst (IsBlock place k) (sym (same k)) (c.other.invariant.0.each k))
