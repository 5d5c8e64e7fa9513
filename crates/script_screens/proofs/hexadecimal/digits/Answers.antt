use Rattle.std.proofs.Common.{sym, ◌∙◌, arith}
use Rattle.std.proofs.lemmas.List.Sums.{prefix_len_is}
use Rattle.script_screens.specs.Pieces.{is_hex}
use Rattle.script_screens.proofs.hexadecimal.digits.Goals as goal

pub returns-then-not-is_hex-clause-length : goal.returns-then-not-is_hex-clause-length
returns-then-not-is_hex-clause-length c =
    sym (prefix_len_is (is_hex) c.args.bytes.now c.loop-i.i 0 (omega (arith, c.loop-i-test.true)) c.loop-i.invariant
    (λ inside. sym c.is_hex.ensures ∙ c.if-not-is_hex.true))

pub returns-clause-length : goal.returns-clause-length
returns-clause-length c =
    sym (prefix_len_is (is_hex) c.args.bytes.now _ 0 (omega arith) (λ k lt. c.loop-i.invariant k (grind (arith, lt, c.loop-i-test.false))) (λ lt. absurd (omega arith)))
