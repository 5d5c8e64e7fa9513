use Rattle.std.proofs.Common.{◌≡◌, refl, sym, ◌∙◌, ap, subst, Ok, Err}
use Rattle.std.specs.Prelude.{Result}
use Rattle.std.proofs.lemmas.Result.{err_from_is_err_and}
use Rattle.tn_wire.specs.declared.event.WireFault.{WireFault}
use Rattle.tn_wire.specs.declared.event.Step.{Step}
use Rattle.tn_wire.specs.Calls.{events_in}
use Rattle.tn_wire.specs.Deframer.{Moves}
use Rattle.tn_wire.proofs.Clauses.{answer_of, used_up_of, shorter_of, only_of, faulted_of}
use Rattle.tn_wire.proofs.deframer.Deframer.next.Goals as goal

pub returns-in_err-found : goal.returns-in_err-found
returns-in_err-found c =
    let p = err_from_is_err_and c.from_residual.result c.from_residual.ensures.1 in
    let fault : WireFault = c.in_err-found.field-0.0 in
    let is : c.from_residual.result ≡ Err fault = p.1 ∙ ap Err p.2 in
    let moves : Moves c.args.self.now c.args.input.now.now (events_in c.from_residual.result) c.advance.new.self c.advance.new.input.now =
    subst (λ z. Moves c.args.self.now c.args.input.now.now (events_in z) c.advance.new.self c.advance.new.input.now) (sym is) c.in_err-found.ensures in (
      (refl, λ _. tt, moves),
      record {
        answer = answer_of c.args.self.now c.args.input.now.now c.from_residual.result c.advance.new.self c.advance.new.input.now moves;
        used_up = used_up_of c.args.self.now c.args.input.now.now c.from_residual.result c.advance.new.self c.advance.new.input.now moves;
        shorter = shorter_of c.args.self.now c.args.input.now.now c.from_residual.result c.advance.new.self c.advance.new.input.now moves;
        only = only_of c.args.self.now c.args.input.now.now c.from_residual.result c.advance.new.self c.advance.new.input.now moves;
        faulted = faulted_of c.args.self.now c.args.input.now.now c.from_residual.result c.advance.new.self c.advance.new.input.now moves;
        after = tt;
      },
    )

pub returns : goal.returns
returns c =
    let result : Result Step WireFault = Ok c.step.result in
    let moves : Moves c.args.self.now c.args.input.now.now (events_in result) c.advance.new.self c.advance.new.input.now =
    subst (λ z. Moves c.args.self.now c.args.input.now.now (Ok z) c.advance.new.self c.advance.new.input.now) (sym c.step.ensures) c.in_ok-found.ensures in (
      (refl, λ _. tt, moves),
      record {
        answer = answer_of c.args.self.now c.args.input.now.now result c.advance.new.self c.advance.new.input.now moves;
        used_up = used_up_of c.args.self.now c.args.input.now.now result c.advance.new.self c.advance.new.input.now moves;
        shorter = shorter_of c.args.self.now c.args.input.now.now result c.advance.new.self c.advance.new.input.now moves;
        only = only_of c.args.self.now c.args.input.now.now result c.advance.new.self c.advance.new.input.now moves;
        faulted = faulted_of c.args.self.now c.args.input.now.now result c.advance.new.self c.advance.new.input.now moves;
        after = tt;
      },
    )
