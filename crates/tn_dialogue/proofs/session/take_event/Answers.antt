use Rattle.std.proofs.Common.{◌≡◌, [], List, ℕ, Ok, Err, sym, subst, ap, ◌∙◌, append-nil}
use Rattle.std.proofs.lemmas.Result.{err_from_is_err_and}
use Rattle.tn_wire.specs.Calls.{told_of}
use Rattle.tn_session.specs.declared.fault.RunFault.{RunFault}
use Rattle.tn_session.specs.Ran.{cause_of}
use Rattle.tn_dialogue.specs.Dialogue.{dialogue_act}
use Rattle.tn_dialogue.specs.DialogueTalk.{TakesEvent}
use Rattle.tn_dialogue.proofs.Steps.{event_fails}
use Rattle.tn_dialogue.proofs.session.take_event.Goals as goal

pub returns-in_err-turn : goal.returns-in_err-turn
returns-in_err-turn c =
    let p = err_from_is_err_and c.from_residual.result c.from_residual.ensures.1 in
    let why : RunFault = c.in_err-turn.field-0.0 in
    let is : c.from_residual.result ≡ Err why = p.1 ∙ ap Err p.2 in (
      [],
      sym (append-nil c.args.due.now.items),
      subst (λ z. TakesEvent (dialogue_act c.args.machine.now (told_of c.args.event.now)) z [] c.take.new.self) (sym is)
          (event_fails (dialogue_act c.args.machine.now (told_of c.args.event.now)) why c.take.new.self (cause_of why) c.in_err-turn.ensures),
    )
