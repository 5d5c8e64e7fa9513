use Rattle.session_hub.proofs.Rooms.{isolated}
use Rattle.session_hub.proofs.laws.isolation_law.Goals as goal

pub returns : goal.returns
returns g c = isolated g.S.Session.takes
