use Rattle.std.proofs.Common.{◌≡◌, ◌+◌, drop}
use Rattle.ds_screen.specs.Picture.{Picture}
use Rattle.ds_screen.specs.Outline.{IsOutlineOf}
use Rattle.scr_check.specs.Walk.{walk_from}
use Rattle.scr_check.specs.TalkSeen.{rounds_of}
use Rattle.scr_check.proofs.talk.check_later.Given as goal

abbrev pub invariant-loop-index : goal.invariant-loop-index
invariant-loop-index l =
    (v : Picture) → IsOutlineOf l.fn.outline v
    → (w : Picture) × (walk_from (l.index + 1) w (rounds_of (drop l.index l.turns)) ≡ walk_from 1 v (rounds_of l.turns)) × IsOutlineOf l.outline w
