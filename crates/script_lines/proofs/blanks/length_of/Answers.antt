use Rattle.std.proofs.Common.{sym, ◌∙◌, arith}
use Rattle.std.proofs.lemmas.List.Sums.{prefix_len_is}
use Rattle.script_lines.specs.Bytes.{is_of}
use Rattle.script_lines.proofs.blanks.length_of.Goals as goal

pub returns-then-not-is_of-clause-length : goal.returns-then-not-is_of-clause-length
returns-then-not-is_of-clause-length c =
    sym (prefix_len_is (is_of c.args.kind) c.args.bytes.now c.loop-i.i 0 (omega (arith, c.loop-i-test.true)) c.loop-i.invariant
    (λ inside. sym c.is_of.ensures ∙ c.if-not-is_of.true))

pub returns-clause-length : goal.returns-clause-length
returns-clause-length c =
    sym (prefix_len_is (is_of c.args.kind) c.args.bytes.now _ 0 (omega arith) (λ k lt. c.loop-i.invariant k (grind (arith, lt, c.loop-i-test.false))) (λ lt. absurd (omega arith)))
