use Rattle.std.proofs.Common.{subst}
use Rattle.ds_strokes.specs.StrokeStep.{Operating, operating, StrokeStep}
use Rattle.ds_strokes.proofs.PressLaws.{struck_without}
use Rattle.ds_strokes.proofs.operator.Operator.strike.Goals as goal

pub returns-clause-pressed : goal.returns-clause-pressed
returns-clause-pressed g c off =
    let after : Operating = operating c.strike.new.screen c.strike.new.inserts in
    let P : Operating → Type 0 = λ o. StrokeStep o c.args.stroke after c.strike.result in
    struck_without c.args.self.now after c.args.stroke c.strike.result off (subst P c.self.view_is c.strike.ensures)
