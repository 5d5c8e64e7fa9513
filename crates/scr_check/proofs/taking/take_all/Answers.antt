use Rattle.std.proofs.Common.{sym, ◌∙◌, []}
use Rattle.scr_check.proofs.TakingLaws.{one_more, one_stops, all_end}
use Rattle.scr_check.proofs.taking.take_all.Goals as goal

pub returns-in-Err : goal.returns-in-Err
returns-in-Err g c = λ v is.
    let before = c.loop-index.invariant v is in
    sym before.1
    ∙ one_stops g.R.TurnRule.fault_of (λ bytes. bytes.now) c.args.records.now c.loop-index.index (record { ref_ptr = (0, 0); now = [] }) before.0 c.in-Err.finding c.loop-index-test.true (c.in-Err.ensures.takes before.0 before.2)

pub loop-index-preserved : goal.loop-index-preserved
loop-index-preserved g c = λ v is.
    let before = c.loop-index.invariant v is in
    let taken = c.in_default.ensures.takes before.0 before.2 in (
      taken.0,
      one_more g.R.TurnRule.fault_of (λ bytes. bytes.now) c.args.records.now c.loop-index.index (record { ref_ptr = (0, 0); now = [] }) before.0 taken.0 c.loop-index-test.true taken.1 ∙ before.1,
      taken.2,
    )

pub returns : goal.returns
returns g c = λ v is.
    let before = c.loop-index.invariant v is in (
      before.0,
      sym before.1 ∙ all_end g.R.TurnRule.fault_of (λ bytes. bytes.now) c.args.records.now c.loop-index.index before.0 c.loop-index-test.false,
      before.2,
    )
