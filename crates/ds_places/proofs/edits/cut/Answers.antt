use Rattle.std.proofs.Common.{◌≡◌, ◌-◌, ◌≤◌, ◌<◌, get_or, List, ℕ, length, vec_len, take, sym, ap, ◌∙◌, arith}
use Rattle.std.specs.List.{copy_within}
use Rattle.ds_places.proofs.SearchLaws.{Parts}
use Rattle.ds_places.proofs.EditLaws.{parts_as, parts_order, cut_at, cut_rises, uncut_at}
use Rattle.ds_places.proofs.edits.cut.Goals as goal

pub rank_from-end-requires-clause-before : goal.rank_from-end-requires-clause-before
rank_from-end-requires-clause-before g c =
    let low : Parts g.T.Placed.place_of c.args.entries.now.items c.args.from c.rank-start.result =
    parts_as g.T.Placed.place_of c.args.entries.now.items c.deref.result.now c.args.from c.rank-start.result c.deref.ensures.value c.rank-start.ensures.parts in
    λ k other less.
    let same = ap (λ l. g.T.Placed.place_of (get_or l k other)) c.deref-2.ensures.value in
    let below : g.T.Placed.place_of (get_or c.args.entries.now.items k other) < c.args.from = low.0 k other (omega arith) less in
    omega (arith, same, below, c.requires.order)

pub returns-then-start-end-clause-cut : goal.returns-then-start-end-clause-cut
returns-then-start-end-clause-cut g c =
    let xs : List g.row.T.Denot = c.args.entries.now.items in
    let i : ℕ = c.rank-start.result in
    let j : ℕ = c.rank_from-end.result in
    let low : Parts g.T.Placed.place_of xs c.args.from i = parts_as g.T.Placed.place_of xs c.deref.result.now c.args.from i c.deref.ensures.value c.rank-start.ensures.parts in
    let high : Parts g.T.Placed.place_of xs c.args.to j = parts_as g.T.Placed.place_of xs c.deref-2.result.now c.args.to j c.deref-2.ensures.value c.rank_from-end.ensures.parts in
    let len : vec_len c.args.entries.now ≡ length xs = sym c.deref.ensures.len ∙ ap length c.deref.ensures.value in
    let is : c.truncate.new.self.items ≡ take (length xs - (j - i)) (copy_within xs j (length xs) i) =
    c.truncate.ensures.items ∙ ap (λ n. take (n - (j - i)) c.copy_within.new.self.items) (c.len.ensures ∙ len)
    ∙ ap (take (length xs - (j - i))) (c.copy_within.ensures.items ∙ ap (λ n. copy_within xs j n i) len) in
    let within : j ≤ length xs = omega (arith, c.rank_from-end.ensures.within, ap length c.deref-2.ensures.value) in
    cut_at g.T.Placed.place_of xs c.truncate.new.self.items c.args.from c.args.to i j c.requires.order low high (omega (arith, c.if-start-end.true)) within is

pub returns-then-start-end-clause-rising : goal.returns-then-start-end-clause-rising
returns-then-start-end-clause-rising g c =
    let xs : List g.row.T.Denot = c.args.entries.now.items in
    let i : ℕ = c.rank-start.result in
    let j : ℕ = c.rank_from-end.result in
    let low : Parts g.T.Placed.place_of xs c.args.from i = parts_as g.T.Placed.place_of xs c.deref.result.now c.args.from i c.deref.ensures.value c.rank-start.ensures.parts in
    let high : Parts g.T.Placed.place_of xs c.args.to j = parts_as g.T.Placed.place_of xs c.deref-2.result.now c.args.to j c.deref-2.ensures.value c.rank_from-end.ensures.parts in
    let len : vec_len c.args.entries.now ≡ length xs = sym c.deref.ensures.len ∙ ap length c.deref.ensures.value in
    let is : c.truncate.new.self.items ≡ take (length xs - (j - i)) (copy_within xs j (length xs) i) =
    c.truncate.ensures.items ∙ ap (λ n. take (n - (j - i)) c.copy_within.new.self.items) (c.len.ensures ∙ len)
    ∙ ap (take (length xs - (j - i))) (c.copy_within.ensures.items ∙ ap (λ n. copy_within xs j n i) len) in
    let within : j ≤ length xs = omega (arith, c.rank_from-end.ensures.within, ap length c.deref-2.ensures.value) in
    cut_rises g.T.Placed.place_of xs c.truncate.new.self.items c.args.from c.args.to i j c.requires.order c.requires.rising low high (omega (arith, c.if-start-end.true)) within is

pub returns-else-start-end-clause-cut : goal.returns-else-start-end-clause-cut
returns-else-start-end-clause-cut g c =
    let low : Parts g.T.Placed.place_of c.args.entries.now.items c.args.from c.rank-start.result =
    parts_as g.T.Placed.place_of c.args.entries.now.items c.deref.result.now c.args.from c.rank-start.result c.deref.ensures.value c.rank-start.ensures.parts in
    let high : Parts g.T.Placed.place_of c.args.entries.now.items c.args.to c.rank_from-end.result =
    parts_as g.T.Placed.place_of c.args.entries.now.items c.deref-2.result.now c.args.to c.rank_from-end.result c.deref-2.ensures.value c.rank_from-end.ensures.parts in
    let le : c.rank-start.result ≤ c.rank_from-end.result =
    parts_order g.T.Placed.place_of c.args.entries.now.items c.args.from c.args.to c.rank-start.result c.rank_from-end.result c.requires.order low high
    (omega (arith, c.rank-start.ensures.within, ap length c.deref.ensures.value)) in
    uncut_at g.T.Placed.place_of c.args.entries.now.items c.args.from c.args.to c.rank-start.result c.rank_from-end.result c.requires.order low high (omega arith)
