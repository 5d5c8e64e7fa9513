use Rattle.std.proofs.Common.{◌++◌, sym, subst}
use Rattle.tn_session.specs.declared.terminal_state.TerminalState.{TerminalState}
use Rattle.tn_session.specs.Talk.{Talk}
use Rattle.cli_scripts.specs.Deeds.{DidSo}
use Rattle.cli_scripts.proofs.desk.Desk.has_arrived.Goals as goal

pub invariant_of-self : goal.invariant_of-self
invariant_of-self c =
    subst (λ (talk : Talk TerminalState). DidSo c.self.inside.device c.self.inside.deeds.items c.self.inside.heard.items
    (c.self.inside.gone.items ++ c.self.inside.due.items) talk c.self.inside.collects (c.self.inside.judged.items ++ c.self.inside.unjudged.items))
    (sym c.arrived.ensures.talk) c.self.invariant

pub invariant_of-self-else-came : goal.invariant_of-self-else-came
invariant_of-self-else-came c =
    subst (λ (talk : Talk TerminalState). DidSo c.self.inside.device c.self.inside.deeds.items c.self.inside.heard.items
    (c.self.inside.gone.items ++ c.self.inside.due.items) talk c.self.inside.collects (c.self.inside.judged.items ++ c.self.inside.unjudged.items))
    (sym c.arrived.ensures.talk) c.self.invariant
