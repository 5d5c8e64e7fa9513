use Rattle.std.proofs.Common.{◌≡◌, ◌<◌, ◌-◌, ◌/◌, ◌∙◌, ◌&&◌, ℕ, leb, ltb, cond, None, length, set, sym, ap, subst, arith, inl, inr}
use Rattle.std.proofs.lemmas.Bool.{cases_eq}
use Rattle.ds_places.specs.Places.{at_place, IsRising}
use Rattle.ds_places.specs.Pages.{lists_of, list_at}
use Rattle.ds_places.proofs.BlockLaws.{other_blocks, block_here, block_read, rooms_stay}
use Rattle.ds_places.proofs.PageLaws.{cut_other}
use Rattle.ds_places.proofs.blocks.cut_places.Goals as goal

pub cut-requires-clause-rising : goal.cut-requires-clause-rising
cut-requires-clause-rising g c =
    let blocks = c.args.blocks.now.items in
    let n : ℕ = c.args.from / 512 in
    let inside : n < length blocks = omega (arith, c.if-number-len.true, c.len.ensures, c.args.blocks.now.ok) in
    subst (IsRising g.T.Placed.place_of) (sym (block_read blocks n c.index_mut.result.now inside c.index_mut.ensures.value)) (c.requires.each n).rising

pub returns-then-number-len-clause-cut : goal.returns-then-number-len-clause-cut
returns-then-number-len-clause-cut g c = λ k q.
    let place = g.T.Placed.place_of in
    let blocks = c.args.blocks.now.items in
    let n : ℕ = c.args.from / 512 in
    let v = c.cut.new.entries in
    let inside : n < length blocks = omega (arith, c.if-number-len.true, c.len.ensures, c.args.blocks.now.ok) in
    let was = block_read blocks n c.index_mut.result.now inside c.index_mut.ensures.value in
    let one : n ≡ (c.args.to - 1) / 512 = omega (arith, c.if-number-to.true) in
    elim (cases_eq k n) [
      | inl here ↦
          subst (λ j. at_place place (list_at (lists_of (set blocks n v)) j) q ≡ cond (leb c.args.from q && ltb q c.args.to) None (at_place place (list_at (lists_of blocks) j) q)) (sym here)
          (ap (λ l. at_place place l q) (block_here blocks n v inside) ∙ c.cut.ensures.cut q ∙ ap (λ l. cond (leb c.args.from q && ltb q c.args.to) None (at_place place l q)) was)
      | inr apart ↦
          ap (λ l. at_place place l q) (other_blocks blocks n v k apart) ∙ (cut_other place c.args.from c.args.to (lists_of blocks) k (c.requires.each k) one apart).1 q
    ]

pub returns-then-number-len-clause-rising : goal.returns-then-number-len-clause-rising
returns-then-number-len-clause-rising g c = λ k.
    let place = g.T.Placed.place_of in
    let blocks = c.args.blocks.now.items in
    let n : ℕ = c.args.from / 512 in
    let v = c.cut.new.entries in
    let inside : n < length blocks = omega (arith, c.if-number-len.true, c.len.ensures, c.args.blocks.now.ok) in
    elim (cases_eq k n) [
      | inl here ↦ subst (λ j. IsRising place (list_at (lists_of (set blocks n v)) j)) (sym here) (subst (IsRising place) (sym (block_here blocks n v inside)) c.cut.ensures.rising)
      | inr apart ↦ subst (IsRising place) (sym (other_blocks blocks n v k apart)) (c.requires.each k).rising
    ]

pub returns-then-number-len-clause-room : goal.returns-then-number-len-clause-room
returns-then-number-len-clause-room g c =
    rooms_stay c.args.blocks.now.items (c.args.from / 512) c.cut.new.entries c.index_mut.result.now c.index_mut.ensures.value c.cut.ensures.room
