use Rattle.session_hub.proofs.Own.{their_own}
use Rattle.session_hub.proofs.laws.own_law.Goals as goal

pub returns : goal.returns
returns g c = their_own g.S.Session.takes
