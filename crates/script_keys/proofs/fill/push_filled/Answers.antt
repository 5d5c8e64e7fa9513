use Rattle.script_keys.proofs.FillLaws.{filled_more}
use Rattle.script_keys.proofs.fill.push_filled.Goals as goal

pub places-preserved : goal.places-preserved
places-preserved g c =
    filled_more c.args.screen.now.cells _ c.args.start c.places.d _ _ _ _ c.args.runs.now.items c.places.runs.items _ c.position_count-n.ensures.count
    c.forward.ensures.on c.cell.ensures c.fill_key.ensures c.once.ensures c.places.invariant c.in_ok-push.ensures.items
