use Rattle.std.proofs.Common.{subst}
use Rattle.ds_state.specs.State.{Opens}
use Rattle.ds_state.proofs.Leaves.{applied_length, leaves_applied}
use Rattle.ds_state.proofs.calls.apply_record.Goals as goal

pub close_state-requires : goal.close_state-requires
close_state-requires c =
    applied_length c.in-Some.screen c.take_record-told.new.screen c.args.bytes.now c.args.state.now
    (subst (Opens c.args.state.now) c.in-Some.is c.in_ok-opened.ensures) c.take_record-told.ensures.after

pub returns-clause-applied : goal.returns-clause-applied
returns-clause-applied c =
    leaves_applied c.in-Some.screen c.take_record-told.new.screen c.args.bytes.now c.take_record-told.result c.args.state.now c.close_state.new.state
    (subst (Opens c.args.state.now) c.in-Some.is c.in_ok-opened.ensures) c.take_record-told.ensures.told c.take_record-told.ensures.after c.in_ok-close_state.ensures.left
