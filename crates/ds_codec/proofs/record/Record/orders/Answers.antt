use Rattle.std.proofs.Common.{subst, ap}
use Rattle.ds_codec.specs.Record.{HaveSpelling}
use Rattle.ds_codec.proofs.Walk.{all_spelled}
use Rattle.ds_codec.proofs.record.Record.orders.Goals as goal

pub returns-clause-spelled : goal.returns-clause-spelled
returns-clause-spelled c =
    subst HaveSpelling (ap (λ m. m.orders) c.self.view_is) (all_spelled c.self.inside.mode c.self.inside.orders.now c.self.invariant.0)
