use Rattle.std.proofs.Common.{◌+◌, ◌-◌}
use Rattle.std.specs.Prelude.{vec_len}
use Rattle.host_server.proofs.server.keep.Given as goal

abbrev pub decreases-loop-lines : goal.decreases-loop-lines
decreases-loop-lines l = l.token + 1 - vec_len l.lines
