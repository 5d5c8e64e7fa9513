use Rattle.std.proofs.Common.{◌≡◌, ◌<◌, ◌+◌, ◌-◌, ℕ, List, get_or, take, drop, length, sym, ap, ◌∙◌, arith}
use Rattle.std.proofs.lemmas.List.{get_or-take, get_or-drop}
use Rattle.std.proofs.lemmas.List.Sums.{prefix_len_is}
use Rattle.ds_codec.specs.Character.{is_text}
use Rattle.ds_codec.proofs.front.text_length.Goals as goal

-- the byte that stands so far behind those that were passed
stands : (bytes : List ℕ) (passed i : ℕ) → i < length bytes - passed
    → get_or (take (length bytes - passed) (drop passed bytes)) i 0 ≡ get_or bytes (passed + i) 0
stands bytes passed i inside =
    get_or-take (length bytes - passed) (drop passed bytes) i 0 inside ∙ get_or-drop passed bytes i 0

pub returns-then-not-is_text_byte : goal.returns-then-not-is_text_byte
returns-then-not-is_text_byte c =
    sym (prefix_len_is is_text c.args.bytes.now (c.graphic_length-passed.result + c.loop-i.i) 0 (grind (arith, c.loop-i-test.true)) c.loop-i.invariant
    (λ inside. ap is_text (sym (stands c.args.bytes.now c.graphic_length-passed.result c.loop-i.i (omega (arith, inside))))
    ∙ sym c.is_text_byte.ensures ∙ c.if-not-is_text_byte.true))

pub returns : goal.returns
returns c =
    sym (prefix_len_is is_text c.args.bytes.now _ 0 (omega arith) (λ k lt. c.loop-i.invariant k (grind (arith, lt, c.loop-i-test.false))) (λ lt. absurd (omega arith)))
