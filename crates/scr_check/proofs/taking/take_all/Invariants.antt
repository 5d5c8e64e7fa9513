use Rattle.std.proofs.Common.{◌≡◌, map, drop}
use Rattle.ds_screen.specs.Picture.{Picture}
use Rattle.ds_screen.specs.Outline.{IsOutlineOf}
use Rattle.scr_check.specs.Taking.{all_taken_by}
use Rattle.scr_check.proofs.taking.take_all.Given as goal

abbrev pub invariant-loop-index : goal.invariant-loop-index
invariant-loop-index g l =
    (v : Picture) → IsOutlineOf l.fn.outline v
    → (w : Picture)
    × (all_taken_by g.R.TurnRule.fault_of l.index w (map (λ bytes. bytes.now) (drop l.index l.records))
    ≡ all_taken_by g.R.TurnRule.fault_of 0 v (map (λ bytes. bytes.now) l.records))
    × IsOutlineOf l.outline w
