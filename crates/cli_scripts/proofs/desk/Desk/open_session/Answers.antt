use Rattle.cli_scripts.proofs.DeskSteps.{opened_is}
use Rattle.cli_scripts.proofs.desk.Desk.open_session.Goals as goal

pub returns-clause-opened : goal.returns-clause-opened
returns-clause-opened c = opened_is _ c.renew.new.self c.args.self.now c.args.host c.self.view_is c.in_ok-renew.ensures.renewed
