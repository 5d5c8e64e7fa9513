use Rattle.std.proofs.Common.{◌+◌, arith, ap, length}
use Rattle.std.proofs.lemmas.List.{length-drop}
use Rattle.tn_relay.proofs.Ways.{all_dropped}
use Rattle.tn_relay.proofs.pipe.Pipe.give.Goals as goal

pub returns-else-self-len-clause-empty : goal.returns-else-self-len-clause-empty
returns-else-self-len-clause-empty c = λ none. absurd (c.if-self-len.false (omega (
  arith,
  c.requires.bytes,
  ap (λ v. length v.bytes) c.self.view_is,
  length-drop c.self.inside.gone c.self.inside.bytes.items,
  all_dropped (c.self.inside.gone + c.args.count) c.self.inside.bytes.items none,
  c.self.invariant.0,
  c.len.ensures,
)))
