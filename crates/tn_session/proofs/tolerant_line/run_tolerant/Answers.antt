use Rattle.std.proofs.Common.{◌≡◌, ℕ, List, ◌++◌, length, ◌≤◌, take, None, ◌∙◌, ap, subst, arith, map}
use Rattle.std.specs.Prelude.{Ok, Err}
use Rattle.std.proofs.lemmas.List.{length-take}
use Rattle.std.proofs.lemmas.Result.{err_from_is_err_and}
use Rattle.tn_session.specs.Ran.{SentOn, Sends}
use Rattle.tn_session.specs.TerminalTalk.{Worked}
use Rattle.tn_session.specs.Wire.{WireState, IsRead}
use Rattle.tn_session.proofs.TolerantSteps.{no_turn, turns_too_many, turns_stopped, turn_cut, turn_over, turn_failed, turn_more}
use Rattle.tn_session.proofs.tolerant_line.run_tolerant.Goals as goal

-- a front of a buffer of 4,096 bytes
short : (count : ℕ) (buffer : List ℕ) → length buffer ≤ 4096 → length (take count buffer) ≤ 4096
short count buffer most = omega (arith, most, length-take {A = ℕ})

full : (buffer : List ℕ) (old new : WireState) → length buffer ≡ 4096 → IsRead (length buffer) old new → IsRead 4096 old new
full buffer old new is read = subst (λ (room : ℕ). IsRead room old new) is read

pub reads-init : goal.reads-init
reads-init g c =
    no_turn c.args.device (map g.K.Keystroke.strike c.args.keys.now) c.args.wire.now
    (record { talk = c.in_ok-session.session.talk; keys = map g.K.Keystroke.strike c.args.keys.now; inhibited = 0 }) c.in_ok-session.session.told
    (ap (λ (w : Worked). record { talk = w.talk; keys = map g.K.Keystroke.strike c.args.keys.now; inhibited = 0 }) c.in_ok-session.ensures)
    (ap (λ (w : Worked). w.told) c.in_ok-session.ensures) c.requires.goes

pub read-requires-clause-goes : goal.read-requires-clause-goes
read-requires-clause-goes g c = c.reads.invariant.goes

pub stopped-requires : goal.stopped-requires
stopped-requires g c = c.reads.invariant.fresh

pub reported-requires : goal.reported-requires
reported-requires g c = c.take_turn-told.ensures.told ∙ c.reads.invariant.fresh

pub returns-in_default : goal.returns-in_default
returns-in_default g c =
    turns_stopped c.args.device (map g.K.Keystroke.strike c.args.keys.now) c.args.wire.now
    (record { talk = c.reads.session.talk; keys = map g.K.Keystroke.strike c.reads.rest.now; inhibited = c.reads.inhibited }) c.reads.session.told
    c.reads.wire c.reads._turn c.reads.invariant c.read.new.buffer c.read.new.self c.stopped.result c.reads-test.true c.in_default.ensures.gave
    (full c.reads.buffer c.reads.wire c.read.new.self (omega arith) c.in_default.ensures.rest) c.stopped.ensures

pub returns-in_err-send : goal.returns-in_err-send
returns-in_err-send g c =
    let p = err_from_is_err_and c.from_residual-in_err-send.result c.from_residual-in_err-send.ensures.1 in
    let given : List ℕ = c.take_turn-told.ensures.turn.0 in
    let all : c.deref.result.now ≡ given = c.deref.ensures.value ∙ c.take_turn-told.ensures.turn.1 ∙ ap (λ z. z ++ given) c.clear.ensures.items in
    turn_cut c.args.device (map g.K.Keystroke.strike c.args.keys.now) c.args.wire.now
    (record { talk = c.reads.session.talk; keys = map g.K.Keystroke.strike c.reads.rest.now; inhibited = c.reads.inhibited }) c.reads.session.told
    c.reads.wire c.reads._turn c.reads.invariant (take c.in-Some.count c.read.new.buffer) c.read.new.self c.reads-test.true c.in-Some.ensures.gave.2
    (full c.reads.buffer c.reads.wire c.read.new.self (omega arith) c.in-Some.ensures.rest) (short c.in-Some.count c.read.new.buffer (omega (arith, c.read.auto.buffer)))
    c.take_turn-told.result given
    (record { talk = c.take_turn-told.new.session.talk; keys = map g.K.Keystroke.strike c.take_turn-told.new.keys.now; inhibited = c.take_turn-told.new.inhibited })
    c.take_turn-told.ensures.turn.2 c.send.new.wire c.in_err-send.field-0.0 c.from_residual-in_err-send.result (p.1 ∙ ap Err p.2)
    (subst (λ z. Sends c.read.new.self z (Err c.in_err-send.field-0.0) c.send.new.wire) all c.in_err-send.ensures)

pub returns-in_err-told : goal.returns-in_err-told
returns-in_err-told g c =
    let p = err_from_is_err_and c.from_residual-in_err-told.result c.from_residual-in_err-told.ensures.1 in
    let given : List ℕ = c.take_turn-told.ensures.turn.0 in
    let all : c.deref.result.now ≡ given = c.deref.ensures.value ∙ c.take_turn-told.ensures.turn.1 ∙ ap (λ z. z ++ given) c.clear.ensures.items in
    turn_failed c.args.device (map g.K.Keystroke.strike c.args.keys.now) c.args.wire.now
    (record { talk = c.reads.session.talk; keys = map g.K.Keystroke.strike c.reads.rest.now; inhibited = c.reads.inhibited }) c.reads.session.told
    c.reads.wire c.reads._turn c.reads.invariant (take c.in-Some.count c.read.new.buffer) c.read.new.self c.reads-test.true c.in-Some.ensures.gave.2
    (full c.reads.buffer c.reads.wire c.read.new.self (omega arith) c.in-Some.ensures.rest) (short c.in-Some.count c.read.new.buffer (omega (arith, c.read.auto.buffer)))
    c.take_turn-told.result given
    (record { talk = c.take_turn-told.new.session.talk; keys = map g.K.Keystroke.strike c.take_turn-told.new.keys.now; inhibited = c.take_turn-told.new.inhibited })
    c.take_turn-told.ensures.turn.2 c.send.new.wire c.in_err-told.field-0.0 c.from_residual-in_err-told.result c.in_err-told.was (p.1 ∙ ap Err p.2)
    (subst (λ z. SentOn c.read.new.self c.send.new.wire z None) all c.in_ok-send.ensures)

pub returns-then-branch : goal.returns-then-branch
returns-then-branch g c =
    let given : List ℕ = c.take_turn-told.ensures.turn.0 in
    let all : c.deref.result.now ≡ given = c.deref.ensures.value ∙ c.take_turn-told.ensures.turn.1 ∙ ap (λ z. z ++ given) c.clear.ensures.items in
    turn_over c.args.device (map g.K.Keystroke.strike c.args.keys.now) c.args.wire.now
    (record { talk = c.reads.session.talk; keys = map g.K.Keystroke.strike c.reads.rest.now; inhibited = c.reads.inhibited }) c.reads.session.told
    c.reads.wire c.reads._turn c.reads.invariant (take c.in-Some.count c.read.new.buffer) c.read.new.self c.reads-test.true c.in-Some.ensures.gave.2
    (full c.reads.buffer c.reads.wire c.read.new.self (omega arith) c.in-Some.ensures.rest) (short c.in-Some.count c.read.new.buffer (omega (arith, c.read.auto.buffer)))
    c.take_turn-told.result given
    (record { talk = c.take_turn-told.new.session.talk; keys = map g.K.Keystroke.strike c.take_turn-told.new.keys.now; inhibited = c.take_turn-told.new.inhibited })
    c.take_turn-told.ensures.turn.2 c.send.new.wire c.reported.result (c.in_ok-told.was ∙ ap Ok c.if-branch.true) c.reported.ensures.end
    (c.reported.ensures.counts (map g.K.Keystroke.strike c.take_turn-told.new.keys.now))
    (subst (λ z. SentOn c.read.new.self c.send.new.wire z None) all c.in_ok-send.ensures)

pub reads-preserved : goal.reads-preserved
reads-preserved g c =
    let given : List ℕ = c.take_turn-told.ensures.turn.0 in
    let all : c.deref.result.now ≡ given = c.deref.ensures.value ∙ c.take_turn-told.ensures.turn.1 ∙ ap (λ z. z ++ given) c.clear.ensures.items in
    turn_more c.args.device (map g.K.Keystroke.strike c.args.keys.now) c.args.wire.now
    (record { talk = c.reads.session.talk; keys = map g.K.Keystroke.strike c.reads.rest.now; inhibited = c.reads.inhibited }) c.reads.session.told
    c.reads.wire c.reads._turn c.reads.invariant (take c.in-Some.count c.read.new.buffer) c.read.new.self c.reads-test.true c.in-Some.ensures.gave.2
    (full c.reads.buffer c.reads.wire c.read.new.self (omega arith) c.in-Some.ensures.rest) (short c.in-Some.count c.read.new.buffer (omega (arith, c.read.auto.buffer)))
    c.take_turn-told.result given
    (record { talk = c.take_turn-told.new.session.talk; keys = map g.K.Keystroke.strike c.take_turn-told.new.keys.now; inhibited = c.take_turn-told.new.inhibited })
    c.take_turn-told.ensures.turn.2 c.send.new.wire c.take_turn-told.new.session.told (c.in_ok-told.was ∙ ap Ok c.if-branch.false) c.take_turn-told.ensures.told
    (subst (λ z. SentOn c.read.new.self c.send.new.wire z None) all c.in_ok-send.ensures)

pub returns : goal.returns
returns g c =
    turns_too_many c.args.device (map g.K.Keystroke.strike c.args.keys.now) c.args.wire.now
    (record { talk = c.reads.session.talk; keys = map g.K.Keystroke.strike c.reads.rest.now; inhibited = c.reads.inhibited }) c.reads.session.told
    c.reads.wire c.reads._turn c.reads.invariant (omega arith)
