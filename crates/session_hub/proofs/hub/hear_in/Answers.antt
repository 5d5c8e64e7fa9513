use Rattle.std.proofs.Common.{Some, refl, sym, subst}
use Rattle.session_hub.specs.Hubs.{HearsAt}
use Rattle.session_hub.proofs.hub.hear_in.Goals as goal

pub returns-in-Some : goal.returns-in-Some
returns-in-Some g c = subst (λ seat. HearsAt g.S.Session.takes c.args.limits.now c.args.now c.args.bytes.now seat (Some c.hear.new.self)) (sym c.in-Some.is) (c.hear.new.self, c.hear.ensures, refl)
