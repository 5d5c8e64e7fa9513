use Rattle.std.proofs.Common.{◌≡◌, Bool, true, sym, ap, ◌∙◌, subst}
use Rattle.std.specs.Prelude.{IfOk, is_some}
use Rattle.cli_scripts.specs.Machines.{Scripted, TellsSo, goes_on}
use Rattle.cli_scripts.proofs.LineEnds.{of_parts, told_after}
use Rattle.cli_scripts.specs.Performs.{worker_of}
use Rattle.cli_scripts.proofs.TakeLaws.{took_on}
use Rattle.cli_scripts.proofs.machine.Machine.take.Goals as goal

pub returns-in_ok-step-in-Some-clause-tells : goal.returns-in_ok-step-in-Some-clause-tells
returns-in_ok-step-in-Some-clause-tells c =
    let busy : c.args.self.now.is_busy ≡ true = sym (ap (λ (m : Scripted). m.is_busy) c.self.view_is) ∙ ap is_some (sym c.take.ensures.value ∙ c.in-Some.is) in
    subst (λ (b : Bool). IfOk c.go_on.result (λ wants. TellsSo (goes_on b c.args.came) c.args.self.now wants c.go_on.new.self)) (sym busy)
    (told_after c.go_on.result c.args.self.now (of_parts c.resume.new.self c.take.new.self c.self.inside.answers) c.go_on.new.self
    (ap (λ (m : Scripted). m.telling) c.self.view_is) c.go_on.ensures.tells)

pub returns-in_ok-step-in-Some-clause-takes : goal.returns-in_ok-step-in-Some-clause-takes
returns-in_ok-step-in-Some-clause-takes c =
    let told = c.in_ok-step-in-Some.ensures in
    took_on c.go_on.result _ c.args.came c.self.inside.worker c.resume.new.self c.in_ok-step-in-Some.step c.deref.result.now c.args.self.now
    (of_parts c.resume.new.self c.take.new.self c.self.inside.answers) c.go_on.new.self
    (sym (ap (λ (m : Scripted). m.job) c.self.view_is) ∙ (sym c.take.ensures.value ∙ c.in-Some.is)) (ap worker_of c.self.view_is)
    c.deref.ensures.value (ap (λ (m : Scripted). m.telling) c.self.view_is)
    (record { page = told.page; set = told.set; goes = told.goes }) c.go_on.ensures.goes
