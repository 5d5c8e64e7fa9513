use Rattle.cli_commands.specs.Held.{strokes_seen}
use Rattle.cli_characters.specs.Strokes.{typed_in}
use Rattle.tn_session.specs.Strikes.{by_stroke}
use Rattle.term3270.specs.Sessions.{AttachesTolerantly}
use Rattle.term3270.proofs.Ended.{if_some, attach_ends}
use Rattle.term3270.proofs.tolerant.tolerant_with_strokes.Goals as goal

pub returns-in-Err : goal.returns-in-Err
returns-in-Err g c =
    if_some (g.K.GivesBytes.remaining c.args.strokes.now) (λ lines gives.
    attach_ends strokes_seen by_stroke (AttachesTolerantly c.args.device c.args.limits.expect) c.args.output.now c.finish.new.writer c.finish.result c.in-Err.error (typed_in lines) gives c.finish.ensures.writes)
    c.in-Err.ensures.strokes
