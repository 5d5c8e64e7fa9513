use Rattle.std.proofs.Common.{ap, arith}
use Rattle.ds_screen.proofs.probed.Probed.last_to.Goals as goal

pub count-requires : goal.count-requires
count-requires c = let looks = c.last_to-found.ensures.looks 32 c.self.invariant in omega (arith, looks, c.requires.few, ap (λ u. u.probes) c.self.view_is)

pub returns-clause-few : goal.returns-clause-few
returns-clause-few c = let looks = c.last_to-found.ensures.looks 32 c.self.invariant in omega (arith, looks, ap (λ u. u.probes) c.self.view_is, ap (λ s. s.probes) c.count.ensures)
