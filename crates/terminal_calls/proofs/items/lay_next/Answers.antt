use Rattle.terminal_calls.proofs.Laid.{laid_next, laid_full}
use Rattle.terminal_calls.proofs.items.lay_next.Goals as goal

pub returns-then-count-out : goal.returns-then-count-out
returns-then-count-out g c = record { next = λ old before many is. laid_next old before c.args.out.now c.args.count c.args.one many is c.if-count-out.true }

pub returns-else-count-out : goal.returns-else-count-out
returns-else-count-out g c = record { next = λ old before many is. laid_full old before c.args.out.now c.args.count c.args.one many is c.if-count-out.false }
