use Rattle.std.proofs.Common.{◌≡◌, ◌∙◌, ◌++◌, [], ◌∷◌, ap, sym}
use Rattle.cli_offers.specs.Ways.{Way, is_over, on_at}
use Rattle.cli_offers.proofs.Ranges.{added, unchanged, chosen, left_out}
use Rattle.cli_offers.proofs.ways.Shown.push_on.Goals as goal
use Rattle.cli_offers.proofs.ways.Shown.push_on.Goals.{then-is_over+in_ok-with_screen+in_ok-push, else-is_over}

pub loop-index-preserved : goal.loop-index-preserved
loop-index-preserved c =
    let due = on_at c.args.self.now c.args.way.now in
    let last : c.way.inside.last ≡ c.args.way.now.last = ap (λ (way : Way). way.last) c.way.view_is in
    let same : c.is_over.result ≡ is_over c.args.self.now c.args.way.now.last c.loop-index.index = c.is_over.ensures ∙ ap (λ s. is_over c.args.self.now s c.loop-index.index) last in
    elim c.if-is_over.branch [
      | then-is_over+in_ok-with_screen+in_ok-push w ↦ rw w.ways-is (added due _ _ _ _ c.loop-index.index c.loop-index.invariant (w.in_ok-push.ensures.items ∙ ap (λ way. c.loop-index.ways.items ++ way ∷ []) w.in_ok-with_screen.ensures) (chosen _ _ (sym same ∙ w.if-is_over.true)))
      | else-is_over w ↦ rw w.ways-is (unchanged due _ _ c.loop-index.index c.loop-index.invariant (left_out _ _ (sym same ∙ w.if-is_over.false)))
    ]
