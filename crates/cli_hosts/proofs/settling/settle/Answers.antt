use Rattle.session_hub.specs.Hubs.{seat_at, ended_in}
use Rattle.cli_hosts.proofs.Printed.{prints_settled}
use Rattle.cli_hosts.proofs.settling.settle.Goals as goal

pub returns-clause-whole : goal.returns-clause-whole
returns-clause-whole g c = prints_settled c.args.layout.now.entries (ended_in (seat_at c.args.token c.args.hub.now.seats)) c.args.output.now c.settle_ended.new.output c.settle_ended.result c.settle_ended.ensures.printed
