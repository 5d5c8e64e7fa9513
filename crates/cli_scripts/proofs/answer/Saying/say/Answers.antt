use Rattle.std.proofs.Common.{◌++◌, sym, ap, ◌∙◌, subst}
use Rattle.cli_scripts.specs.Answers.{AreData, printed_text}
use Rattle.script_screens.specs.Lines.{data_line}
use Rattle.cli_scripts.proofs.DataLines.{printed_data}
use Rattle.cli_scripts.proofs.answer.Saying.say.Goals as goal

pub add-requires : goal.add-requires
add-requires c =
    subst AreData (sym (c.deref.ensures.value ∙ c.in_ok-push_data.ensures ∙ ap (λ z. z ++ data_line (printed_text c.args.text.now)) c.new-line.ensures.items))
    (printed_data c.args.text.now)
