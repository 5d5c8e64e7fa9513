use Rattle.std.proofs.Common.{◌≡◌, ℕ, [], ◌∷◌, List, sym, ◌∙◌, ap, subst}
use Rattle.std.specs.Prelude.{Result, Ok, Err}
use Rattle.std.proofs.lemmas.Result.{err_from_is_err_and}
use Rattle.tn_wire.specs.declared.event.WireFault.{WireFault}
use Rattle.tn_wire.specs.declared.event.Step.{Step}
use Rattle.tn_wire.specs.Calls.{told_of, events_in}
use Rattle.tn_wire.specs.Deframer.{Held, Moves}
use Rattle.tn_wire.specs.Stream.{Told}
use Rattle.tn_session.specs.declared.fault.RunFault.{RunFault}
use Rattle.tn_session.specs.Ran.{cause_of}
use Rattle.tn_session.specs.Talk.{Adds}
use Rattle.tn_dialogue.specs.Dialogue.{dialogue_act}
use Rattle.tn_dialogue.specs.DialogueTalk.{TakesEvent, TakesPiece}
use Rattle.tn_session.proofs.PieceSteps.{piece_begins, piece_quiet, piece_at_fault, piece_goes, piece_finishes, piece_fails}
use Rattle.tn_dialogue.proofs.session.take_piece.Goals as goal

pub events-init : goal.events-init
events-init c =
    piece_begins dialogue_act c.args.deframer.now c.args.machine.now c.args.rest.now.now c.args.due.now.items c.requires.fresh c.requires.opens

tells_of : (result : Result Step WireFault) (told : Result (List Told) WireFault) (old new : Held) (before after : List ℕ) → events_in result ≡ told
    → Moves old before (events_in result) new after → Moves old before told new after
tells_of result told old new before after is m = subst (λ z. Moves old before z new after) is m

pub returns-in-Ok-NeedMore-clause-taken : goal.returns-in-Ok-NeedMore-clause-taken
returns-in-Ok-NeedMore-clause-taken c =
    piece_quiet dialogue_act c.args.deframer.now.content c.args.machine.now c.args.due.now.items c.args.rest.now.now
    c.events.deframer c.events.machine c.events.rest.now c.events.due.items c.events.invariant c.next.follows.lender-at-none c.next.new.input.now
    (tells_of c.next.result (Ok []) c.events.deframer c.next.follows.lender-at-none c.events.rest.now c.next.new.input.now
    (ap events_in (c.in-Ok-NeedMore.is ∙ ap Ok c.in-Ok-NeedMore.field-0-is)) c.next.follows.holds-at-none)

pub returns-in_err-take_event-in-Ok-Event-clause-taken :
    goal.returns-in_err-take_event-in-Ok-Event-clause-taken
returns-in_err-take_event-in-Ok-Event-clause-taken c =
    let p = err_from_is_err_and c.from_residual.result c.from_residual.ensures.1 in
    let why : RunFault = c.in_err-take_event-in-Ok-Event.field-0.0 in
    let is : c.from_residual.result ≡ Err why = p.1 ∙ ap Err p.2 in
    let went = c.in_err-take_event-in-Ok-Event.ensures in
    subst (λ z. Adds c.args.due.now.items c.take_event.new.due.items (λ given. TakesPiece dialogue_act c.args.deframer.now.content c.args.machine.now c.args.rest.now.now z given
    c.take_event.new.machine c.next.follows.lender-at-none.content c.next.new.input.now)) (sym is)
    (piece_fails dialogue_act c.args.deframer.now.content c.args.machine.now c.args.due.now.items c.args.rest.now.now
    c.events.deframer c.events.machine c.events.rest.now c.events.due.items c.events.invariant c.next.follows.lender-at-none c.next.new.input.now
    (told_of c.in-Ok-Event.event) c.take_event.new.machine c.take_event.new.due.items went.0 went.1
    (tells_of c.next.result (Ok (told_of c.in-Ok-Event.event ∷ [])) c.events.deframer c.next.follows.lender-at-none c.events.rest.now c.next.new.input.now
    (ap events_in (c.in-Ok-Event.is ∙ ap Ok c.in-Ok-Event.field-0-is)) c.next.follows.holds-at-none)
    why (cause_of why) went.2)

pub events-preserved : goal.events-preserved
events-preserved c =
    let went = c.in_ok-take_event-in-Ok-Event.ensures in
    piece_goes dialogue_act c.args.deframer.now.content c.args.machine.now c.args.due.now.items c.args.rest.now.now
    c.events.deframer c.events.machine c.events.rest.now c.events.due.items c.events.invariant c.next.follows.lender-at-none c.next.new.input.now
    (told_of c.in-Ok-Event.event) c.take_event.new.machine c.take_event.new.due.items went.0 went.1
    (tells_of c.next.result (Ok (told_of c.in-Ok-Event.event ∷ [])) c.events.deframer c.next.follows.lender-at-none c.events.rest.now c.next.new.input.now
    (ap events_in (c.in-Ok-Event.is ∙ ap Ok c.in-Ok-Event.field-0-is)) c.next.follows.holds-at-none)
    (subst (λ t. TakesEvent (dialogue_act c.events.machine (told_of c.in-Ok-Event.event)) (Ok t) went.0 c.take_event.new.machine) c.in-Goes.is went.2)

pub returns-in-Finishes-clause-taken : goal.returns-in-Finishes-clause-taken
returns-in-Finishes-clause-taken c =
    let went = c.in_ok-take_event-in-Ok-Event.ensures in
    piece_finishes dialogue_act c.args.deframer.now.content c.args.machine.now c.args.due.now.items c.args.rest.now.now
    c.events.deframer c.events.machine c.events.rest.now c.events.due.items c.events.invariant c.next.follows.lender-at-none c.next.new.input.now
    (told_of c.in-Ok-Event.event) c.take_event.new.machine c.take_event.new.due.items went.0 went.1
    (tells_of c.next.result (Ok (told_of c.in-Ok-Event.event ∷ [])) c.events.deframer c.next.follows.lender-at-none c.events.rest.now c.next.new.input.now
    (ap events_in (c.in-Ok-Event.is ∙ ap Ok c.in-Ok-Event.field-0-is)) c.next.follows.holds-at-none)
    (subst (λ t. TakesEvent (dialogue_act c.events.machine (told_of c.in-Ok-Event.event)) (Ok t) went.0 c.take_event.new.machine) c.in-Finishes.is went.2)

pub returns-in-Err-clause-taken : goal.returns-in-Err-clause-taken
returns-in-Err-clause-taken c =
    piece_at_fault dialogue_act c.args.deframer.now.content c.args.machine.now c.args.due.now.items c.args.rest.now.now
    c.events.deframer c.events.machine c.events.rest.now c.events.due.items c.events.invariant c.next.follows.lender-at-none c.next.new.input.now
    c.in-Err.fault
    (tells_of c.next.result (Err c.in-Err.fault) c.events.deframer c.next.follows.lender-at-none c.events.rest.now c.next.new.input.now
    (ap events_in c.in-Err.is) c.next.follows.holds-at-none)
