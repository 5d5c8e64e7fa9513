use Rattle.std.proofs.Common.{refl}
use Rattle.ds_screen.proofs.PlaneLaws.{stay_plain}
use Rattle.ds_screen.proofs.planes.fill_kinds.Goals as goal

pub returns-then-is_plain : goal.returns-then-is_plain
returns-then-is_plain c = record {
  each = λ p d. stay_plain c.args.kinds.now c.args.kind c.args.from c.args.to p d (c.requires.plain c.if-plain.true) (c.is_plain.ensures c.if-is_plain.true) c.requires.inside;
  whole = refl;
  plain = λ always. c.requires.plain c.if-plain.true;
}
