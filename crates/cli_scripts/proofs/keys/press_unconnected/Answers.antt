use Rattle.std.proofs.Common.{Bool, sym, ap, ◌∙◌}
use Rattle.std.specs.Prelude.{if◌then◌else◌}
use Rattle.cli_scripts.specs.Acts.{cleared}
use Rattle.cli_scripts.proofs.keys.press_unconnected.Goals.{then-is_clear+in_ok-clear, else-is_clear}
use Rattle.cli_scripts.proofs.keys.press_unconnected.Goals as goal

pub returns-clause-works : goal.returns-clause-works
returns-clause-works c = elim c.if-is_clear.branch [
  | then-is_clear+in_ok-clear w ↦
      w.desk-is ∙ w.in_ok-clear.ensures.cleared
      ∙ ap (λ (b : Bool). if b then cleared c.args.desk.now else c.args.desk.now) (sym w.if-is_clear.true ∙ c.is_clear.ensures)
  | else-is_clear w ↦
      w.desk-is ∙ ap (λ (b : Bool). if b then cleared c.args.desk.now else c.args.desk.now) (sym w.if-is_clear.false ∙ c.is_clear.ensures)
]
