use Rattle.session_hub.proofs.Alone.{determined_alone}
use Rattle.session_hub.proofs.laws.alone_law.Goals as goal

pub returns : goal.returns
returns g c = determined_alone g.S.Session.takes
