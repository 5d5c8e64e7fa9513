use Rattle.std.proofs.Common.{sym, subst, map}
use Rattle.cli_scripts.specs.Answers.{AreData}
use Rattle.script_screens.specs.Reading.{said_of_reading}
use Rattle.cli_scripts.proofs.DataLines.{said_data}
use Rattle.cli_scripts.proofs.answer.Saying.read.Goals as goal

pub add-requires : goal.add-requires
add-requires c =
    subst AreData (sym c.deref.ensures.value) (said_data c.new-text.result.items c.push_reading.new.out.items c.in_ok-outcome.outcome
    (said_of_reading c.args.code_page c.args.screen.now c.args.reading (map (λ argument. argument.items) c.args.arguments.now)) c.new-text.ensures.items
    (c.lines_law.ensures.readings c.args.code_page c.args.screen.now c.args.reading (map (λ argument. argument.items) c.args.arguments.now))
    c.in_ok-outcome.ensures)
