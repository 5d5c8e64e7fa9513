use Rattle.std.proofs.Common.{◌≡◌, ℕ, List, ◌++◌, length, ◌≤◌, take, None, ◌∙◌, ap, subst, arith}
use Rattle.std.specs.Prelude.{Ok, Err}
use Rattle.std.proofs.lemmas.List.{length-take}
use Rattle.std.proofs.lemmas.Result.{err_from_is_err_and}
use Rattle.tn_session.specs.Ran.{SentOn, Sends}
use Rattle.tn_session.specs.Wire.{WireState, IsRead}
use Rattle.tn_session.proofs.RunSteps.{run_begins, opening_failed, run_stopped, run_cut, run_goes, run_finishes, run_fails}
use Rattle.tn_session.proofs.run.run_over.Goals as goal

-- a front of a buffer of 4,096 bytes
short : (count : ℕ) (buffer : List ℕ) → length buffer ≤ 4096 → length (take count buffer) ≤ 4096
short count buffer most = omega (arith, most, length-take {A = ℕ})

full : (buffer : List ℕ) (old new : WireState) → length buffer ≡ 4096 → IsRead (length buffer) old new → IsRead 4096 old new
full buffer old new is read = subst (λ (room : ℕ). IsRead room old new) is read

pub returns-in_err-send : goal.returns-in_err-send
returns-in_err-send g c =
    let p = err_from_is_err_and c.from_residual.result c.from_residual.ensures.1 in
    opening_failed g.M.Machine.act c.args.opening.now c.args.session.now c.args.session.now c.args.wire.now
    c.send.new.wire c.in_err-send.field-0.0 c.from_residual.result c.requires.first (p.1 ∙ ap Err p.2) c.in_err-send.ensures

pub reads-init : goal.reads-init
reads-init g c =
    run_begins g.M.Machine.act c.args.opening.now c.args.session.now c.args.wire.now c.send.new.wire c.requires.first c.in_ok-send.ensures

pub returns-in_default : goal.returns-in_default
returns-in_default g c =
    run_stopped g.M.Machine.act c.args.opening.now c.args.session.now c.args.wire.now c.reads.session c.reads.wire c.reads._turn c.reads.invariant
    c.read.new.buffer c.read.new.self c.stopped.result c.reads-test.true c.in_default.ensures.gave
    (full c.reads.buffer c.reads.wire c.read.new.self (omega arith) c.in_default.ensures.rest) c.stopped.ensures

pub returns-in_err-send-2 : goal.returns-in_err-send-2
returns-in_err-send-2 g c =
    let p = err_from_is_err_and c.from_residual-in_err-send-2.result c.from_residual-in_err-send-2.ensures.1 in
    let given : List ℕ = c.take-told.ensures.0 in
    let all : c.deref.result.now ≡ given = c.deref.ensures.value ∙ c.take-told.ensures.1 ∙ ap (λ z. z ++ given) c.clear.ensures.items in
    run_cut g.M.Machine.act c.args.opening.now c.args.session.now c.args.wire.now c.reads.session c.reads.wire c.reads._turn c.reads.invariant
    (take c.in-Some.count c.read.new.buffer) c.read.new.self c.reads-test.true c.in-Some.ensures.gave.2
    (full c.reads.buffer c.reads.wire c.read.new.self (omega arith) c.in-Some.ensures.rest) (short c.in-Some.count c.read.new.buffer (omega (arith, c.read.auto.buffer)))
    c.take-told.result given c.take-told.new.self c.take-told.ensures.2 c.send-in-reads.new.wire
    c.in_err-send-2.field-0.0 c.from_residual-in_err-send-2.result (p.1 ∙ ap Err p.2)
    (subst (λ z. Sends c.read.new.self z (Err c.in_err-send-2.field-0.0) c.send-in-reads.new.wire) all c.in_err-send-2.ensures)

pub returns-in_err-told : goal.returns-in_err-told
returns-in_err-told g c =
    let p = err_from_is_err_and c.from_residual-in_err-told.result c.from_residual-in_err-told.ensures.1 in
    let given : List ℕ = c.take-told.ensures.0 in
    let all : c.deref.result.now ≡ given = c.deref.ensures.value ∙ c.take-told.ensures.1 ∙ ap (λ z. z ++ given) c.clear.ensures.items in
    run_fails g.M.Machine.act c.args.opening.now c.args.session.now c.args.wire.now c.reads.session c.reads.wire c.reads._turn c.reads.invariant
    (take c.in-Some.count c.read.new.buffer) c.read.new.self c.reads-test.true c.in-Some.ensures.gave.2
    (full c.reads.buffer c.reads.wire c.read.new.self (omega arith) c.in-Some.ensures.rest) (short c.in-Some.count c.read.new.buffer (omega (arith, c.read.auto.buffer)))
    c.take-told.result given c.take-told.new.self c.take-told.ensures.2 c.send-in-reads.new.wire
    c.in_err-told.field-0.0 c.from_residual-in_err-told.result c.in_err-told.was (p.1 ∙ ap Err p.2)
    (subst (λ z. SentOn c.read.new.self c.send-in-reads.new.wire z None) all c.in_ok-send-2.ensures)

pub returns-in-Done : goal.returns-in-Done
returns-in-Done g c =
    let given : List ℕ = c.take-told.ensures.0 in
    let all : c.deref.result.now ≡ given = c.deref.ensures.value ∙ c.take-told.ensures.1 ∙ ap (λ z. z ++ given) c.clear.ensures.items in
    run_finishes g.M.Machine.act c.args.opening.now c.args.session.now c.args.wire.now c.reads.session c.reads.wire c.reads._turn c.reads.invariant
    (take c.in-Some.count c.read.new.buffer) c.read.new.self c.reads-test.true c.in-Some.ensures.gave.2
    (full c.reads.buffer c.reads.wire c.read.new.self (omega arith) c.in-Some.ensures.rest) (short c.in-Some.count c.read.new.buffer (omega (arith, c.read.auto.buffer)))
    c.take-told.result given c.take-told.new.self c.take-told.ensures.2 c.send-in-reads.new.wire
    c.in-Done.taken (c.in_ok-told.was ∙ ap Ok c.in-Done.is)
    (subst (λ z. SentOn c.read.new.self c.send-in-reads.new.wire z None) all c.in_ok-send-2.ensures)

pub reads-preserved : goal.reads-preserved
reads-preserved g c =
    let given : List ℕ = c.take-told.ensures.0 in
    let all : c.deref.result.now ≡ given = c.deref.ensures.value ∙ c.take-told.ensures.1 ∙ ap (λ z. z ++ given) c.clear.ensures.items in
    run_goes g.M.Machine.act c.args.opening.now c.args.session.now c.args.wire.now c.reads.session c.reads.wire c.reads._turn c.reads.invariant
    (take c.in-Some.count c.read.new.buffer) c.read.new.self c.reads-test.true c.in-Some.ensures.gave.2
    (full c.reads.buffer c.reads.wire c.read.new.self (omega arith) c.in-Some.ensures.rest) (short c.in-Some.count c.read.new.buffer (omega (arith, c.read.auto.buffer)))
    c.take-told.result given c.take-told.new.self c.take-told.ensures.2 c.send-in-reads.new.wire
    (c.in_ok-told.was ∙ ap Ok c.in-More.is)
    (subst (λ z. SentOn c.read.new.self c.send-in-reads.new.wire z None) all c.in_ok-send-2.ensures)
