use Rattle.std.proofs.Common.{◌++◌, sym, ap, ◌∙◌, subst}
use Rattle.cli_scripts.specs.Answers.{AreData}
use Rattle.std.proofs.Common.{codes}
use Rattle.script_screens.specs.Lines.{data_line}
use Rattle.script_screens.specs.Pieces.{fault_words}
use Rattle.cli_scripts.proofs.DataLines.{string_data}
use Rattle.cli_scripts.proofs.answer.Saying.fault_in_string.Goals as goal

pub add-requires : goal.add-requires
add-requires c =
    subst AreData (sym (c.deref.ensures.value ∙ c.in_ok-push_string_fault.ensures
    ∙ ap (λ z. z ++ data_line (codes "String(): " ++ fault_words c.args.fault)) c.new-line.ensures.items)) (string_data c.args.fault)
