use Rattle.script_screens.proofs.Sizes.{wide}
use Rattle.script_screens.proofs.cells.columns.Goals as goal

pub returns-clause-some : goal.returns-clause-some
returns-clause-some c = rw c.size.ensures.value (wide c.args.screen.now c.size.ensures.sound)
