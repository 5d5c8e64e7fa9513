use Rattle.ds_screen.proofs.MarkLaws.{erase_marked}
use Rattle.ds_screen.proofs.marks.MarksSurface.erase.Goals as goal

pub returns-clause-shown : goal.returns-clause-shown
returns-clause-shown c = λ cells shown. erase_marked c.args.self.now cells c.args._b c.args._stop shown
