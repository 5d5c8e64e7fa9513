-- What becomes of waits.
use Rattle.std.proofs.Common.{◌≡◌, ℕ, Bool, true, List, Result, Ok, Err, sym, subst}
use Rattle.std.specs.Prelude.{IfOk, is_some}
use Rattle.std.specs.declared.alloc.AllocError.{AllocError}
use Rattle.script_requests.specs.declared.wait.Wait.{Wait}
use Rattle.cli_scripts.specs.declared.doing.Step.{Step}
use Rattle.cli_scripts.specs.declared.waiting.Becomes.{Becomes}
use Rattle.cli_scripts.specs.declared.waiting.Becomes.TheVariants.{Fails}
use Rattle.cli_scripts.specs.declared.waiting.Failure.TheVariants.{NoTime}
use Rattle.cli_scripts.specs.Desks.{Worked}
use Rattle.cli_scripts.specs.Waits.{Begins, BeginsAt, HearsAt, Tells, lacks_time}

-- what became of it is told
pub waited : (r : Result Step AllocError) (wait : Wait) (IsSo : Becomes → Type 0) (became : Becomes) (old new : List ℕ) → IsSo became
    → IfOk r (λ step. Tells wait became step old new) → IfOk r (λ step. (b : Becomes) × IsSo b × Tells wait b step old new)
waited (Ok step) wait IsSo became old new is tells = (became, is, tells)
waited (Err why) wait IsSo became old new is tells = tells

pub begins_so : (w : Worked) (wait : Wait) (became : Becomes) (lacks connected : Bool) → lacks_time wait ≡ lacks → is_some w.host ≡ connected
    → BeginsAt lacks connected w wait became → Begins w wait became
begins_so w wait became lacks connected is so begins =
    subst (λ (b : Bool). BeginsAt b (is_some w.host) w wait became) (sym is) (subst (λ (b : Bool). BeginsAt lacks b w wait became) (sym so) begins)

pub begins_lacking : (w : Worked) (wait : Wait) (became : Becomes) → lacks_time wait ≡ true → became ≡ Fails NoTime → Begins w wait became
begins_lacking w wait became is so = subst (λ (b : Bool). BeginsAt b (is_some w.host) w wait became) (sym is) so

pub hears_so : (w : Worked) (wait : Wait) (became : Becomes) (connected : Bool) → is_some w.host ≡ connected → HearsAt connected w wait became
    → HearsAt (is_some w.host) w wait became
hears_so w wait became connected is hears = subst (λ (b : Bool). HearsAt b w wait became) (sym is) hears
