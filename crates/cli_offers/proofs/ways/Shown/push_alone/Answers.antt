use Rattle.std.proofs.Common.{◌∙◌, ◌++◌, [], ◌∷◌, ap, sym}
use Rattle.cli_offers.specs.Ways.{alone_at}
use Rattle.cli_offers.proofs.Ranges.{added, unchanged, chosen, left_out}
use Rattle.cli_offers.proofs.ways.Shown.push_alone.Goals as goal
use Rattle.cli_offers.proofs.ways.Shown.push_alone.Goals.{then-is_alone+in_ok-push, else-is_alone}

pub loop-index-preserved : goal.loop-index-preserved
loop-index-preserved c =
    let due = alone_at c.args.self.now in
    elim c.if-is_alone.branch [
      | then-is_alone+in_ok-push w ↦ rw w.ways-is (added due _ _ _ _ c.loop-index.index c.loop-index.invariant (w.in_ok-push.ensures.items ∙ ap (λ way. c.loop-index.ways.items ++ way ∷ []) w.alone.ensures) (chosen _ _ (sym w.if-is_alone.ensures)))
      | else-is_alone w ↦ rw w.ways-is (unchanged due _ _ c.loop-index.index c.loop-index.invariant (left_out _ _ (sym w.if-is_alone.ensures)))
    ]
