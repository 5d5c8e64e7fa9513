use Rattle.std.specs.Prelude.{◌≡◌, IfOk}
use Rattle.std.proofs.Common.{subst, sym}
use Rattle.session_calls.specs.Calls.{begun_worked}
use Rattle.session_calls.proofs.calls.begin.Goals as goal

pub returns-then-tolerant : goal.returns-then-tolerant
returns-then-tolerant c =
    subst (λ tolerant. IfOk c.tolerant.result (λ session. session ≡ begun_worked tolerant c.args.device c.args.enhanced c.args.responses)) (sym c.if-tolerant.true) c.tolerant.ensures

pub returns-else-tolerant : goal.returns-else-tolerant
returns-else-tolerant c =
    subst (λ tolerant. IfOk c.new.result (λ session. session ≡ begun_worked tolerant c.args.device c.args.enhanced c.args.responses)) (sym c.if-tolerant.false) c.new.ensures
