use Rattle.std.proofs.Common.{[], sym, ◌∙◌}
use Rattle.scr_check.specs.Opening.{command_fault}
use Rattle.scr_check.specs.Taking.{Fault}
use Rattle.scr_check.proofs.TakingLaws.{one_stops}
use Rattle.scr_check.proofs.PenVerdict.{stops_taken}
use Rattle.scr_check.proofs.pen.take_shown.Goals as goal

pub returns-in-Err : goal.returns-in-Err
returns-in-Err g c =
    let fault : Fault = λ index command orders. command_fault index command in
    sym c.loop-index.invariant
    ∙ one_stops fault (λ bytes. bytes.now) c.args.records.now c.loop-index.index (record { ref_ptr = (0, 0); now = [] }) c.loop-index.screen c.in-Err.finding c.loop-index-test.true
    (stops_taken fault c.loop-index.index c.loop-index.screen c.take_by.new.target c.in-Err.finding _ c.in-Err.ensures)
