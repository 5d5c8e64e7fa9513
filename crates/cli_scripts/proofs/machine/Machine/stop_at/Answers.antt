use Rattle.std.proofs.Common.{refl}
use Rattle.cli_scripts.proofs.LineEnds.{told_line, told_quit}
use Rattle.cli_scripts.proofs.machine.Machine.stop_at.Goals as goal

pub returns-in-Ended-clause-tells : goal.returns-in-Ended-clause-tells
returns-in-Ended-clause-tells c =
    told_line c.end_line.result c.args.self.now c.end_line.new.self c.args.self.now.desk c.args.self.now.saying c.args.self.now.telling c.in-Ended.outcome
    c.end_line.ensures.wants c.end_line.ensures.tells c.end_line.ensures.desk refl

pub returns-in_ok-end_line-in-Quits-clause-tells : goal.returns-in_ok-end_line-in-Quits-clause-tells
returns-in_ok-end_line-in-Quits-clause-tells c =
    told_quit c.args.self.now _ c.end_line-in-Quits.new.self c.close.new.self c.self-in-Quits.view_is c.in_ok-end_line-in-Quits.ensures.desk
    c.in_ok-end_line-in-Quits.ensures.tells c.close.ensures
