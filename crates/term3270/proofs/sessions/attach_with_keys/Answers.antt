use Rattle.cli_commands.specs.Held.{keys_seen}
use Rattle.cli_commands.specs.Keys.{keys_in}
use Rattle.tn_session.specs.Strikes.{by_key}
use Rattle.term3270.specs.Sessions.{AttachesSocket}
use Rattle.term3270.proofs.Ended.{if_some, attach_ends}
use Rattle.term3270.proofs.sessions.attach_with_keys.Goals as goal

pub returns-in-Err : goal.returns-in-Err
returns-in-Err g c =
    if_some (g.K.GivesBytes.remaining c.args.keys.now) (λ lines gives.
    attach_ends keys_seen by_key (AttachesSocket c.args.device) c.args.output.now c.finish.new.writer c.finish.result c.in-Err.error (keys_in lines) gives c.finish.ensures.writes)
    c.in-Err.ensures.keys
