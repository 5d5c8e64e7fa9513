use Rattle.std.proofs.Common.{◌∙◌, ap, refl, subst, sym}
use Rattle.std.proofs.lemmas.Result.{err_from_is_err_and}
use Rattle.bms_source.specs.Results.{Fails}
use Rattle.bms_map.specs.Operands.{judge}
use Rattle.bms_map.proofs.OperandLaws.{failed_judge, failed_operand, given_as, passed_judge}
use Rattle.bms_map.proofs.operands.operands_of.Goals as goal

pub returns-in_err-operand : goal.returns-in_err-operand
returns-in_err-operand c =
    let p = err_from_is_err_and c.from_residual.result c.from_residual.ensures.1 in
    rw (p.1, p.2) (failed_operand c.args.operation c.loop-rest.told.items c.loop-rest.rest.now _ _ _ c.in_err-operand.field-0.0 c.in-len1-up.len_at_least refl c.loop-rest.invariant
    c.in_err-operand.ensures.operand)

pub returns-in_err-judge : goal.returns-in_err-judge
returns-in_err-judge c =
    let p = err_from_is_err_and c.from_residual-in_err-judge.result c.from_residual-in_err-judge.ensures.1 in
    let given = given_as c.in_ok-operand.operand.keyword.now c.in_ok-operand.operand.value.now in
    rw (p.1, p.2) (failed_judge c.args.operation c.loop-rest.told.items c.loop-rest.rest.now _ _ c.in_ok-operand.operand.keyword.now c.in_ok-operand.operand.value.now
    c.in_ok-operand.others.now _ c.in_err-judge.field-0.0 c.in-len1-up.len_at_least refl c.loop-rest.invariant c.in_ok-operand.ensures.operand
    (subst (λ l. Fails c.in_err-judge.field-0.0 (judge c.args.operation l given)) c.deref.ensures.value c.in_err-judge.ensures))

pub loop-rest-preserved : goal.loop-rest-preserved
loop-rest-preserved c =
    let given = given_as c.in_ok-operand.operand.keyword.now c.in_ok-operand.operand.value.now in
    passed_judge c.args.operation c.loop-rest.told.items c.push.new.self.items c.loop-rest.rest.now _ _ c.in_ok-operand.operand.keyword.now c.in_ok-operand.operand.value.now
    c.in_ok-operand.others.now _ tt c.in-len1-up.len_at_least refl c.loop-rest.invariant c.in_ok-operand.ensures.operand
    (sym (ap (λ l. judge c.args.operation l given) c.deref.ensures.value) ∙ c.in_ok-judge.ensures) c.in_ok-push.ensures.items
