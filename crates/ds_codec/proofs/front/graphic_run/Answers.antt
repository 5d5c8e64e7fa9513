use Rattle.std.proofs.Common.{arith}
use Rattle.ds_codec.proofs.Loads.{all_pass, some_pass, no_more}
use Rattle.ds_codec.proofs.front.graphic_run.Goals as goal

pub returns-then-below-eq0-clause-text : goal.returns-then-below-eq0-clause-text
returns-then-below-eq0-clause-text c =
    all_pass c.args.bytes.now c.args.at c.requires c.if-below-eq0.true (λ k. omega (arith, c.type_inv.bytes k))

pub returns-else-below-eq0-clause-few : goal.returns-else-below-eq0-clause-few
returns-else-below-eq0-clause-few c = no_more c.args.bytes.now c.args.at c.requires (omega (arith, c.if-below-eq0.false))

pub returns-else-below-eq0-clause-text : goal.returns-else-below-eq0-clause-text
returns-else-below-eq0-clause-text c =
    some_pass c.args.bytes.now c.args.at c.requires (omega (arith, c.if-below-eq0.false)) (λ k. omega (arith, c.type_inv.bytes k))
