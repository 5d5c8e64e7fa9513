use Rattle.std.proofs.Common.{sym, ◌∙◌}
use Rattle.scr_check.proofs.WalkLaws.{opens_by, stands_by}
use Rattle.scr_check.proofs.later.open_later.Goals as goal

pub returns-in-Err-clause-opens : goal.returns-in-Err-clause-opens
returns-in-Err-clause-opens c =
    stands_by (λ bytes. bytes.now) c.args.outline.now c.worsen.new.self c.take_all.new.outline c.args.records.now c.args.size c.in-Err.finding (sym c.is_empty.ensures ∙ c.if-is_empty.false)
    c.worsen.ensures c.in-Err.ensures

pub returns-clause-opens : goal.returns-clause-opens
returns-clause-opens c =
    opens_by (λ bytes. bytes.now) c.args.outline.now c.worsen.new.self c.take_all.new.outline c.args.records.now c.args.size c.ready.result (sym c.is_empty.ensures ∙ c.if-is_empty.false)
    c.worsen.ensures c.in_default.ensures c.ready.ensures
