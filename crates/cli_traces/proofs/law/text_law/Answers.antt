use Rattle.cli_traces.proofs.Alone.{all_have_one_text, ends_have_one_text, ends_are_not_all}
use Rattle.cli_traces.proofs.law.text_law.Goals as goal

pub returns : goal.returns
returns c = record { all = all_have_one_text; ends = ends_have_one_text; either = ends_are_not_all }
