use Rattle.std.proofs.Common.{◌≡◌, ◌≤◌, ℕ, ◌+◌, ◌-◌, List, length, take, drop, slice_range, sym, ap, ◌∙◌, arith, length-take, drop-drop}
use Rattle.std.proofs.lemmas.List.{drop-take}
use Rattle.cli_commands.proofs.input.ahead.ReadAhead.consume.Goals as goal

-- the rest of a range
further : (xs : List ℕ) (from to count : ℕ) → count ≤ length (slice_range xs from to) → slice_range xs (from + count) to ≡ drop count (slice_range xs from to)
further xs from to count few =
    let whole : count + (to - (from + count)) ≡ to - from = omega (arith, few, length-take (to - from) (drop from xs)) in
    ap (take (to - (from + count))) (sym (drop-drop count from xs)) ∙ sym (drop-take count (to - (from + count)) (drop from xs))
    ∙ ap (λ k. drop count (take k (drop from xs))) whole

pub returns : goal.returns
returns c =
    let inside = c.self.inside in
    rw (← c.self.view_is) (further inside.buffer.items inside.start inside.end c.args.count (rw (← c.self.view_is) at c.requires))
