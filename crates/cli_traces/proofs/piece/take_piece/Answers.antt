use Rattle.std.proofs.Common.{ℕ, ◌≡◌, [], ◌∷◌, List, sym, ◌∙◌, ap, subst, arith}
use Rattle.std.specs.Prelude.{Result, Ok, Err}
use Rattle.std.specs.String.{string_bytes}
use Rattle.std.proofs.lemmas.Result.{err_from_is_err_and}
use Rattle.tn_wire.specs.declared.event.WireFault.{WireFault}
use Rattle.tn_wire.specs.declared.event.Step.{Step}
use Rattle.tn_wire.specs.Calls.{told_of, events_in}
use Rattle.tn_wire.specs.Deframer.{Held, Moves}
use Rattle.tn_wire.specs.Stream.{Told}
use Rattle.tn_session.specs.declared.fault.RunFault.{RunFault}
use Rattle.cli_traces.specs.Reading.{event_log}
use Rattle.cli_traces.specs.Taking.{TakesPiece}
use Rattle.cli_traces.proofs.Pieces.{count_event, event_shorter, count_quiet, few_now, piece_begins, piece_quiet, piece_at_fault, piece_goes, piece_fails, goes_open}
use Rattle.cli_traces.proofs.piece.take_piece.Goals as goal

pub events-init : goal.events-init
events-init c =
    piece_begins (event_log c.args.task.asked c.args.task.side c.args.task.line) c.args.deframer.now c.args.count.now c.args.reading.now c.args.piece.now (string_bytes c.args.out.now)
    c.requires.open

tells_of : (result : Result Step WireFault) (told : Result (List Told) WireFault) (old new : Held) (before after : List ℕ) → events_in result ≡ told
    → Moves old before (events_in result) new after → Moves old before told new after
tells_of result told old new before after is m = subst (λ z. Moves old before z new after) is m

pub returns-in-Ok-NeedMore-clause-taken : goal.returns-in-Ok-NeedMore-clause-taken
returns-in-Ok-NeedMore-clause-taken c =
    piece_quiet (event_log c.args.task.asked c.args.task.side c.args.task.line) c.args.deframer.now.content c.args.reading.now c.args.piece.now (string_bytes c.args.out.now)
    c.events.deframer c.events.count c.events.reading (string_bytes c.events.out) c.events.rest.now c.events.invariant c.next.follows.lender-at-none c.next.new.input.now
    (tells_of c.next.result (Ok []) c.events.deframer c.next.follows.lender-at-none c.events.rest.now c.next.new.input.now
    (ap events_in (c.in-Ok-NeedMore.is ∙ ap Ok c.in-Ok-NeedMore.field-0-is)) c.next.follows.holds-at-none)

pub returns-in-Ok-NeedMore-clause-open : goal.returns-in-Ok-NeedMore-clause-open
returns-in-Ok-NeedMore-clause-open c = (
  (let m = (tells_of c.next.result (Ok []) c.events.deframer c.next.follows.lender-at-none c.events.rest.now c.next.new.input.now
      (ap events_in (c.in-Ok-NeedMore.is ∙ ap Ok c.in-Ok-NeedMore.field-0-is)) c.next.follows.holds-at-none) in m.kept),
  goes_open (event_log c.args.task.asked c.args.task.side c.args.task.line) c.args.deframer.now.content c.args.reading.now c.args.piece.now (string_bytes c.args.out.now)
      c.next.follows.lender-at-none.content c.events.reading (string_bytes c.events.out) (returns-in-Ok-NeedMore-clause-taken c),
  omega (
    arith,
    c.len_of-left.ensures.value,
    count_quiet (event_log c.args.task.asked c.args.task.side c.args.task.line) c.args.deframer.now.content c.args.reading.now c.args.piece.now (string_bytes c.args.out.now)
        c.events.deframer c.events.count c.events.reading (string_bytes c.events.out) c.events.rest.now c.events.invariant c.next.follows.lender-at-none c.next.new.input.now
        (tells_of c.next.result (Ok []) c.events.deframer c.next.follows.lender-at-none c.events.rest.now c.next.new.input.now
        (ap events_in (c.in-Ok-NeedMore.is ∙ ap Ok c.in-Ok-NeedMore.field-0-is)) c.next.follows.holds-at-none),
  ),
)

pub overflow_add-count : goal.overflow_add-count
overflow_add-count c = omega (
  arith,
  few_now (event_log c.args.task.asked c.args.task.side c.args.task.line) c.args.deframer.now.content c.args.reading.now c.args.piece.now (string_bytes c.args.out.now)
      c.events.deframer c.events.count c.events.reading (string_bytes c.events.out) c.events.rest.now c.events.invariant c.next.follows.lender-at-none c.next.new.input.now,
  c.len_of-left.ensures.small,
  c.len_of-left.ensures.value,
)

pub open_after-requires-clause-fits : goal.open_after-requires-clause-fits
open_after-requires-clause-fits c = omega (
  arith,
  few_now (event_log c.args.task.asked c.args.task.side c.args.task.line) c.args.deframer.now.content c.args.reading.now c.args.piece.now (string_bytes c.args.out.now)
      c.events.deframer c.events.count c.events.reading (string_bytes c.events.out) c.events.rest.now c.events.invariant c.next.follows.lender-at-none c.next.new.input.now,
  c.len_of-left.ensures.small,
  c.len_of-left.ensures.value,
)

pub open_after-requires-clause-covers : goal.open_after-requires-clause-covers
open_after-requires-clause-covers c =
    omega (
      arith,
      c.len_of-left.ensures.value,
      count_event (event_log c.args.task.asked c.args.task.side c.args.task.line) c.args.deframer.now.content c.args.reading.now c.args.piece.now (string_bytes c.args.out.now)
          c.events.deframer c.events.count c.events.reading (string_bytes c.events.out) c.events.rest.now c.events.invariant c.next.follows.lender-at-none c.next.new.input.now
          (told_of c.in-Ok-Event.event) (tells_of c.next.result (Ok (told_of c.in-Ok-Event.event ∷ [])) c.events.deframer c.next.follows.lender-at-none c.events.rest.now c.next.new.input.now
          (ap events_in (c.in-Ok-Event.is ∙ ap Ok c.in-Ok-Event.field-0-is)) c.next.follows.holds-at-none),
    )

pub events-preserved : goal.events-preserved
events-preserved c =
    piece_goes (event_log c.args.task.asked c.args.task.side c.args.task.line) c.args.deframer.now.content c.args.reading.now c.args.piece.now (string_bytes c.args.out.now)
    c.events.deframer c.events.count c.events.reading (string_bytes c.events.out) c.events.rest.now c.events.invariant c.next.follows.lender-at-none c.next.new.input.now
    (told_of c.in-Ok-Event.event) c.take_event.new.reading (string_bytes c.take_event.new.out)
    (tells_of c.next.result (Ok (told_of c.in-Ok-Event.event ∷ [])) c.events.deframer c.next.follows.lender-at-none c.events.rest.now c.next.new.input.now
    (ap events_in (c.in-Ok-Event.is ∙ ap Ok c.in-Ok-Event.field-0-is)) c.next.follows.holds-at-none)
    c.open_after.result (omega (
      arith,
      c.len_of-left.ensures.value,
      c.open_after.ensures,
      count_event (event_log c.args.task.asked c.args.task.side c.args.task.line) c.args.deframer.now.content c.args.reading.now c.args.piece.now (string_bytes c.args.out.now)
          c.events.deframer c.events.count c.events.reading (string_bytes c.events.out) c.events.rest.now c.events.invariant c.next.follows.lender-at-none c.next.new.input.now
          (told_of c.in-Ok-Event.event) (tells_of c.next.result (Ok (told_of c.in-Ok-Event.event ∷ [])) c.events.deframer c.next.follows.lender-at-none c.events.rest.now c.next.new.input.now
          (ap events_in (c.in-Ok-Event.is ∙ ap Ok c.in-Ok-Event.field-0-is)) c.next.follows.holds-at-none),
      event_shorter (event_log c.args.task.asked c.args.task.side c.args.task.line) c.args.deframer.now.content c.args.reading.now c.args.piece.now (string_bytes c.args.out.now)
          c.events.deframer c.events.count c.events.reading (string_bytes c.events.out) c.events.rest.now c.events.invariant c.next.follows.lender-at-none c.next.new.input.now
          (told_of c.in-Ok-Event.event) (tells_of c.next.result (Ok (told_of c.in-Ok-Event.event ∷ [])) c.events.deframer c.next.follows.lender-at-none c.events.rest.now c.next.new.input.now
          (ap events_in (c.in-Ok-Event.is ∙ ap Ok c.in-Ok-Event.field-0-is)) c.next.follows.holds-at-none),
    ))
    c.in_ok-take_event-in-Ok-Event.ensures

pub returns-in_err-take_event-in-Ok-Event-clause-taken :
    goal.returns-in_err-take_event-in-Ok-Event-clause-taken
returns-in_err-take_event-in-Ok-Event-clause-taken c =
    let p = err_from_is_err_and c.from_residual.result c.from_residual.ensures.1 in
    let why : RunFault = c.in_err-take_event-in-Ok-Event.field-0.0 in
    let is : c.from_residual.result ≡ Err why = p.1 ∙ ap Err p.2 in
    subst (λ z. TakesPiece (event_log c.args.task.asked c.args.task.side c.args.task.line) c.args.deframer.now.content c.args.reading.now c.args.piece.now
    (string_bytes c.args.out.now) z c.next.follows.lender-at-none.content c.take_event.new.reading (string_bytes c.take_event.new.out)) (sym is)
    (piece_fails (event_log c.args.task.asked c.args.task.side c.args.task.line) c.args.deframer.now.content c.args.reading.now c.args.piece.now (string_bytes c.args.out.now)
    c.events.deframer c.events.count c.events.reading (string_bytes c.events.out) c.events.rest.now c.events.invariant c.next.follows.lender-at-none c.next.new.input.now
    (told_of c.in-Ok-Event.event) c.take_event.new.reading (string_bytes c.take_event.new.out)
    (tells_of c.next.result (Ok (told_of c.in-Ok-Event.event ∷ [])) c.events.deframer c.next.follows.lender-at-none c.events.rest.now c.next.new.input.now
    (ap events_in (c.in-Ok-Event.is ∙ ap Ok c.in-Ok-Event.field-0-is)) c.next.follows.holds-at-none)
    why c.in_err-take_event-in-Ok-Event.ensures)

pub returns-in-Err-clause-taken : goal.returns-in-Err-clause-taken
returns-in-Err-clause-taken c =
    piece_at_fault (event_log c.args.task.asked c.args.task.side c.args.task.line) c.args.deframer.now.content c.args.reading.now c.args.piece.now (string_bytes c.args.out.now)
    c.events.deframer c.events.count c.events.reading (string_bytes c.events.out) c.events.rest.now c.events.invariant c.next.follows.lender-at-none c.next.new.input.now
    c.in-Err.fault
    (tells_of c.next.result (Err c.in-Err.fault) c.events.deframer c.next.follows.lender-at-none c.events.rest.now c.next.new.input.now
    (ap events_in c.in-Err.is) c.next.follows.holds-at-none)
