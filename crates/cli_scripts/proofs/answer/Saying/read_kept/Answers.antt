use Rattle.std.proofs.Common.{sym, subst, map}
use Rattle.cli_scripts.specs.Answers.{AreData}
use Rattle.script_screens.specs.Laws.{LinkIsWhole}
use Rattle.script_screens.specs.Snap.{said_of_kept}
use Rattle.script_screens.specs.Status.{link_seen}
use Rattle.cli_scripts.proofs.DataLines.{said_data}
use Rattle.cli_scripts.proofs.answer.Saying.read_kept.Goals as goal

pub add-requires : goal.add-requires
add-requires c =
    let arguments = map (λ argument. argument.items) c.args.arguments.now in
    let link = link_seen c.connection-connection.result in
    subst AreData (sym c.deref.ensures.value) (said_data c.new-text.result.items c.push_kept.new.out.items c.in_ok-outcome.outcome
    (said_of_kept c.args.code_page c.args.kept.now.screen link c.args.kept.now.model c.args.asked arguments) c.new-text.ensures.items
    (c.lines_law.ensures.kept c.args.code_page c.args.kept.now.screen link c.args.kept.now.model c.args.asked arguments
    (subst LinkIsWhole (sym c.connection-connection.ensures.value) c.connection-connection.ensures.whole)) c.in_ok-outcome.ensures)
