use Rattle.std.proofs.Common.{◌≡◌, ◌⊎◌, inl, inr, ℕ, sym, ◌∙◌, ap, subst, Ok, List, ◌++◌, map, Bor}
use Rattle.tn_wire.specs.declared.codes.Verb.{Verb}
use Rattle.tn_wire.specs.declared.event.Event.{Event}
use Rattle.tn_wire.specs.declared.event.Event.TheVariants as events
use Rattle.tn_wire.specs.Calls.{told_of}
use Rattle.tn_cores.specs.Steps.{Takes}
use Rattle.tn_session.specs.EndCores.{core_step}
use Rattle.tn_session.specs.Ran.{Does}
use Rattle.tn_session.specs.Runs.{Log}
use Rattle.tn_session.specs.TerminalLog.{TerminalRunning, terminal_act}
use Rattle.tn_session.proofs.TerminalSteps.{refused_act, record_act, IsOther, other_does, named_so}
use Rattle.tn_session.proofs.terminal_events.take_event_of.Goals as goal

pub returns-in-Err : goal.returns-in-Err
returns-in-Err g c =
    refused_act (record { state = c.args.state.now; keys = map g.K.Keystroke.strike c.args.keys.now.now }) (told_of c.args.event.now) c.step.new.self c.in-Err.why c.step.new.out.items c.in-Err.ensures

pub returns-in-Record : goal.returns-in-Record
returns-in-Record g c =
    let running : TerminalRunning = record { state = c.args.state.now; keys = map g.K.Keystroke.strike c.args.keys.now.now } in
    let takes = subst (λ (e : Event). Takes (core_step c.args.state.now.core (told_of e)) c.args.state.now.core (Ok c.in-Ok.told) c.step.new.self c.step.new.out.items)
    c.in-Record.is c.in-Ok.ensures in
    subst (λ (log : Log TerminalRunning). Does log c.take_record.result (record { state = c.take_record.new.state; keys = map g.K.Keystroke.strike c.take_record.new.keys.now }) c.take_record.new.due.items)
    (sym (ap (λ (e : Event). terminal_act running (told_of e)) c.in-Record.is ∙ record_act running c.step.new.self c.in-Ok.told c.step.new.out.items c.in-Record.bytes.now takes))
    c.take_record.ensures

-- a verb, a subnegotiation, or a passed byte
is_other : (event : Event) → ((verb : Verb) × (option : ℕ) × (event ≡ events.Verb verb option))
    ⊎ (((option : ℕ) × (parameters : Bor (List ℕ)) × (event ≡ events.Sub option parameters)) ⊎ ((byte : ℕ) × (event ≡ events.Passed byte)))
    → IsOther (told_of event)
is_other event (inl (verb, option, is)) = subst (λ (e : Event). IsOther (told_of e)) (sym is) tt
is_other event (inr (inl (option, parameters, is))) = subst (λ (e : Event). IsOther (told_of e)) (sym is) tt
is_other event (inr (inr (byte, is))) = subst (λ (e : Event). IsOther (told_of e)) (sym is) tt

pub returns-in_ok-extend_from_slice-in-Verb : goal.returns-in_ok-extend_from_slice-in-Verb
returns-in_ok-extend_from_slice-in-Verb g c =
    other_does (record { state = c.args.state.now; keys = map g.K.Keystroke.strike c.args.keys.now.now }) (told_of c.args.event.now) c.step.new.self c.in-Ok.told
    c.step.new.out.items c.heed.new.self c.extend_from_slice.new.self.items
    (is_other c.args.event.now c.in-Verb.is) c.in-Ok.ensures
    (named_so c.args.state.now (told_of c.args.event.now) c.step.new.self c.in-Ok.told c.note.new.self _ c.heed.new.self c.granted_lu_name-granted.ensures c.note.ensures c.in_ok-heed-in-Verb.ensures)
    (c.in_ok-extend_from_slice-in-Verb.ensures.items ∙ ap (λ z. z ++ c.deref.result.now) c.requires.empty ∙ c.deref.ensures.0)
