use Rattle.std.proofs.Common.{sym, ◌∙◌}
use Rattle.order_lines.proofs.Pairs.{pair_pushed, no_pair}
use Rattle.order_lines.proofs.words.pairs.Goals as goal

pub returns-in_default : goal.returns-in_default
returns-in_default c =
    no_pair c.loop-rest.bytes.items c.args.words.now c.loop-rest.rest.now c.loop-rest.invariant (sym c.is_empty.ensures ∙ c.loop-rest-test.true) c.in_default.ensures.told

pub loop-rest-preserved : goal.loop-rest-preserved
loop-rest-preserved c =
    pair_pushed c.loop-rest.bytes.items c.extend_from_slice.new.self.items c.args.words.now c.loop-rest.rest.now c.in-Some.others.now c.in-Some.kind c.in-Some.value c.loop-rest.invariant (sym c.is_empty.ensures ∙ c.loop-rest-test.true)
    c.in-Some.ensures.told c.in_ok-extend_from_slice.ensures.items
