use Rattle.std.proofs.Common.{sym, ◌∙◌, arith}
use Rattle.std.proofs.lemmas.List.Sums.{prefix_len_is}
use Rattle.script_requests.specs.Waits.{is_digit}
use Rattle.script_requests.proofs.wait.digit_count.Goals as goal

pub returns-then-not-is_digit-clause-count : goal.returns-then-not-is_digit-clause-count
returns-then-not-is_digit-clause-count c =
    sym (prefix_len_is is_digit c.args.bytes.now c.loop-i.i 0 (omega (arith, c.loop-i-test.true)) c.loop-i.invariant
    (λ inside. sym c.is_digit.ensures ∙ c.if-not-is_digit.true))

pub returns-clause-count : goal.returns-clause-count
returns-clause-count c =
    sym (prefix_len_is is_digit c.args.bytes.now _ 0 (omega arith) (λ k lt. c.loop-i.invariant k (grind (arith, lt, c.loop-i-test.false))) (λ lt. absurd (omega arith)))
