use Rattle.std.proofs.Common.{◌++◌, ap}
use Rattle.cli_scripts.proofs.DeskSteps.{begun_step, renewed_is}
use Rattle.cli_scripts.proofs.desk.Desk.renew.Goals as goal

pub invariant_of-self : goal.invariant_of-self
invariant_of-self c =
    begun_step c.self.inside.device c.self.inside.deeds.items c.and-self-inside.result.items c.self.inside.heard.items c.self.inside.gone.items
    c.self.inside.due.items c.self.inside.collects (c.self.inside.judged.items ++ c.self.inside.unjudged.items) c.self.inside.session.talk
    c.in_ok-session.session.talk c.and-self-inside.ensures c.self.invariant (ap (λ w. w.talk) c.in_ok-session.ensures)

pub returns-clause-renewed : goal.returns-clause-renewed
returns-clause-renewed c =
    renewed_is _ c.args.self.now c.in_ok-session.session.talk c.and-self-inside.result.items c.in_ok-session.session.told.taken c.self.view_is
    (ap (λ w. w.talk) c.in_ok-session.ensures) c.and-self-inside.ensures (ap (λ w. w.told.taken) c.in_ok-session.ensures)
