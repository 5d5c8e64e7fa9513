use Rattle.std.proofs.Common.{◌++◌, map, Ok, Err, ◌∙◌, ap, subst}
use Rattle.std.proofs.lemmas.Result.{err_from_is_err_and}
use Rattle.tn_session.specs.HostLog.{host_act}
use Rattle.tn_session.specs.RanSession.{RanSession}
use Rattle.tn_session.specs.HostTalk.{first_said}
use Rattle.tn_session.specs.declared.turn.Finish.TheVariants.{Finished}
use Rattle.tn_session.proofs.HostFinish.{ran_host, no_memory_for, none_made}
use Rattle.tn_session.proofs.host_line.run_host.Goals as goal

pub returns-in_err-host : goal.returns-in_err-host
returns-in_err-host g c =
    let p = err_from_is_err_and c.from_residual.result c.from_residual.ensures.1 in
    none_made c.args.layout.now (map (λ bytes. bytes.now) c.args.records.now) c.args.enhanced c.args.responses c.in_err-host.field-0.0 c.args.wire.now
    c.from_residual.result (p.1 ∙ ap Err p.2) c.in_err-host.ensures.not_made

pub returns-in_err-begin : goal.returns-in_err-begin
returns-in_err-begin g c =
    let p = err_from_is_err_and c.from_residual-in_err-begin.result c.from_residual-in_err-begin.ensures.1 in
    no_memory_for c.args.layout.now (map (λ bytes. bytes.now) c.args.records.now) c.args.enhanced c.args.responses c.args.wire.now
    c.from_residual-in_err-begin.result c.in_ok-host.ensures.made.1 (p.1 ∙ ap Err p.2)

pub returns-in_err-run : goal.returns-in_err-run
returns-in_err-run g c =
    let p = err_from_is_err_and c.from_residual-in_err-run.result c.from_residual-in_err-run.ensures.1 in
    ran_host c.args.layout.now (map (λ bytes. bytes.now) c.args.records.now) c.args.enhanced c.args.responses c.in_ok-host.host c.run.new.self c.deref.result.now
    c.args.wire.now c.run.new.wire (Err c.in_err-run.field-0.0) c.from_residual-in_err-run.result c.in_ok-host.ensures.made
    (c.deref.ensures.value ∙ c.in_ok-begin.ensures ∙ ap (λ z. z ++ first_said c.in_ok-host.host) c.new-opening.ensures.items)
    c.in_err-run.ensures (p.1 ∙ ap Err p.2)

pub returns-in-Finished : goal.returns-in-Finished
returns-in-Finished g c =
    ran_host c.args.layout.now (map (λ bytes. bytes.now) c.args.records.now) c.args.enhanced c.args.responses c.in_ok-host.host c.run.new.self c.deref.result.now
    c.args.wire.now c.run.new.wire (Ok Finished) c.outcome_of.result c.in_ok-host.ensures.made
    (c.deref.ensures.value ∙ c.in_ok-begin.ensures ∙ ap (λ z. z ++ first_said c.in_ok-host.host) c.new-opening.ensures.items)
    (subst (λ f. RanSession host_act c.deref.result.now c.in_ok-host.host c.args.wire.now (Ok f) c.run.new.self c.run.new.wire) c.in-Finished.is c.in_ok-run.ensures)
    c.outcome_of.ensures
