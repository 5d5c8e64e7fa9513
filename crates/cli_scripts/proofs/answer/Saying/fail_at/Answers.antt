use Rattle.std.proofs.Common.{◌++◌, sym, ap, ◌∙◌, subst}
use Rattle.cli_scripts.specs.Answers.{AreData}
use Rattle.cli_scripts.specs.Answers.{syntax_text}
use Rattle.script_screens.specs.Lines.{data_line}
use Rattle.cli_scripts.proofs.DataLines.{syntax_data}
use Rattle.cli_scripts.proofs.answer.Saying.fail_at.Goals as goal

pub add-requires : goal.add-requires
add-requires c =
    subst AreData (sym (c.deref.ensures.value ∙ c.in_ok-push_syntax.ensures ∙ ap (λ z. z ++ data_line (syntax_text c.args.fault)) c.new-line.ensures.items))
    (syntax_data c.args.fault)
