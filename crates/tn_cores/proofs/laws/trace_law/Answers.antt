use Rattle.tn_cores.proofs.TraceLaws.{terminals_told, hosts_told}
use Rattle.tn_cores.proofs.laws.trace_law.Goals as goal

pub returns : goal.returns
returns c = record { terminals = terminals_told; hosts = hosts_told }
