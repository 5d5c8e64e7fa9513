use Rattle.ds_strokes.specs.StrokeStep.{operating}
use Rattle.ds_terminal.proofs.StrokeLaws.{never_sent}
use Rattle.ds_terminal.proofs.strokes.strike_quietly.Goals as goal

pub unreachable-requires : goal.unreachable-requires
unreachable-requires g c =
    never_sent (operating c.args.screen.now c.args.inserts.now) (operating c.strike.new.screen c.strike.new.inserts) c.args.stroke c.strike.result c.in-Sent.field-0
    c.requires c.strike.ensures c.in-Sent.is
