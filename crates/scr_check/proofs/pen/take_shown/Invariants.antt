use Rattle.std.proofs.Common.{◌≡◌, map, drop}
use Rattle.scr_check.specs.Opening.{command_fault}
use Rattle.scr_check.specs.Taking.{all_taken_by}
use Rattle.scr_check.proofs.pen.take_shown.Given as goal

abbrev pub invariant-loop-index : goal.invariant-loop-index
invariant-loop-index g l =
    all_taken_by (λ index command orders. command_fault index command) l.index l.screen (map (λ bytes. bytes.now) (drop l.index l.records))
    ≡ all_taken_by (λ index command orders. command_fault index command) 0 l.fn.screen (map (λ bytes. bytes.now) l.records)
