use Rattle.std.proofs.Common.{sym, ◌∙◌}
use Rattle.std.proofs.lemmas.Result.{IfOk-weaker}
use Rattle.bms_source.proofs.ColumnLaws.{all_first}
use Rattle.bms_source.proofs.columns.columns_of.Goals as goal

pub returns-then-is_ascii : goal.returns-then-is_ascii
returns-then-is_ascii c =
    IfOk-weaker c.from_slice.result _ _ (λ columns same. same ∙ sym (all_first c.args.line.now c.if-is_ascii.ensures.cases)) c.from_slice.ensures.items
