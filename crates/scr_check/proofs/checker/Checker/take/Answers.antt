use Rattle.std.proofs.Common.{[], ◌∷◌, length-append, arith}
use Rattle.scr_check.proofs.checker.Checker.take.Goals as goal

pub invariant_of-self : goal.invariant_of-self
invariant_of-self c = rw c.add.ensures (
  omega (arith, c.self.invariant.0, length-append c.self.inside.taken.items (c.args.bytes.now ∷ [])),
  c.take_next-self-inside.ensures c.self.inside.layout.now c.self.inside.taken.items c.self.invariant.0 c.self.invariant.1,
)
