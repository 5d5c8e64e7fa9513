use Rattle.std.proofs.Common.{◌≡◌, drop}
use Rattle.scr_check.specs.Opening.{taken_from}
use Rattle.scr_draft.specs.Opened.{held}
use Rattle.scr_draft.proofs.opening.take_all.Given as goal

abbrev pub invariant-loop-index : goal.invariant-loop-index
invariant-loop-index l = taken_from l.index l.screen (held (drop l.index l.records)) ≡ taken_from 0 l.fn.screen (held l.records)
