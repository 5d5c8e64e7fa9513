use Rattle.std.proofs.Common.{◌++◌, sym, subst}
use Rattle.cli_scripts.specs.Answers.{AreData}
use Rattle.std.proofs.Common.{codes}
use Rattle.script_screens.specs.Lines.{failed}
use Rattle.script_screens.specs.Snap.{snap_fault_words}
use Rattle.cli_scripts.proofs.DataLines.{said_data, snap_whole}
use Rattle.cli_scripts.proofs.answer.Saying.fail_snap.Goals as goal

pub add-requires : goal.add-requires
add-requires c =
    subst AreData (sym c.deref.ensures.value) (said_data c.new-text.result.items c.push_snap_fault.new.out.items c.in_ok-outcome.outcome
    (failed (codes "Snap(): " ++ snap_fault_words c.args.fault)) c.new-text.ensures.items (snap_whole c.args.fault) c.in_ok-outcome.ensures)
