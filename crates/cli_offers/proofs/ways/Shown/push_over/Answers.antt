use Rattle.std.proofs.Common.{sym}
use Rattle.cli_offers.specs.Ways.{over_at}
use Rattle.cli_offers.proofs.Ranges.{added, unchanged, chosen, left_out}
use Rattle.cli_offers.proofs.ways.Shown.push_over.Goals as goal
use Rattle.cli_offers.proofs.ways.Shown.push_over.Goals.{then-is_erased+in_ok-push_rounds, else-is_erased}

pub loop-index-preserved : goal.loop-index-preserved
loop-index-preserved c =
    let due = over_at c.args.self.now in
    elim c.if-is_erased.branch [
      | then-is_erased+in_ok-push_rounds w ↦ rw w.ways-is (added due _ _ _ _ c.loop-index.index c.loop-index.invariant w.in_ok-push_rounds.ensures (chosen _ _ (sym w.if-is_erased.ensures)))
      | else-is_erased w ↦ rw w.ways-is (unchanged due _ _ c.loop-index.index c.loop-index.invariant (left_out _ _ (sym w.if-is_erased.ensures)))
    ]
