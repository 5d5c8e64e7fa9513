use Rattle.std.proofs.Common.{ap, take, ◌∙◌}
use Rattle.std.proofs.lemmas.List.{take_min}
use Rattle.host_server.proofs.pending.Pending.front.Goals as goal

pub returns : goal.returns
returns c = rw c.min.ensures (take_min 4096 c.waits-waits.result.now ∙ ap (take 4096) c.waits-waits.ensures)
