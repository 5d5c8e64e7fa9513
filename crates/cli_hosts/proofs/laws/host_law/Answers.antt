use Rattle.cli_hosts.proofs.Alone.{hosts_alone, hosts_agree}
use Rattle.cli_hosts.proofs.laws.host_law.Goals as goal

pub returns-clause-alone : goal.returns-clause-alone
returns-clause-alone c = hosts_alone c.own_law.ensures

pub returns-clause-agree : goal.returns-clause-agree
returns-clause-agree c = hosts_agree c.pieces_law.ensures.host
