use Rattle.std.proofs.Common.{sym, ◌∙◌}
use Rattle.script_screens.proofs.Items.{passed}
use Rattle.script_screens.proofs.item.item_in.Goals as goal

pub loop-item-preserved : goal.loop-item-preserved
loop-item-preserved c =
    sym (passed c.args.items.now c.loop-item.item-index _ c.args.text.now c.loop-item-test.true
    (sym c.is_named.ensures ∙ c.if-is_named.false))
    ∙ c.loop-item.invariant
