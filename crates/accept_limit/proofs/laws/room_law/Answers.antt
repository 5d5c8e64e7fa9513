use Rattle.accept_limit.proofs.Histories.{room_for_all}
use Rattle.accept_limit.proofs.laws.room_law.Goals as goal

pub returns : goal.returns
returns c = room_for_all
