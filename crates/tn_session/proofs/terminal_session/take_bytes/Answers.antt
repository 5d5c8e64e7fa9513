use Rattle.std.proofs.Common.{ℕ, List, subst}
use Rattle.tn_session.proofs.TolerantWork.{TakenSoFar, is_empty, all_taken}
use Rattle.tn_session.proofs.terminal_session.take_bytes.Goals as goal

pub returns : goal.returns
returns c =
    all_taken c.args.session.now c.bytes.session c.args.bytes.now c.args.due.now.items c.bytes.due.items
    (subst (λ (rest : List ℕ). TakenSoFar c.args.session.now c.args.bytes.now c.args.due.now.items c.bytes.session rest c.bytes.due.items) (is_empty c.bytes.rest.now c.in_default.ensures.cases)
    c.bytes.invariant)
