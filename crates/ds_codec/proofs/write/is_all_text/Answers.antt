use Rattle.std.proofs.Common.{eqb, length, ap, ◌∙◌}
use Rattle.ds_codec.specs.Character.{is_text}
use Rattle.ds_codec.proofs.TextRuns.{all_of_run}
use Rattle.ds_codec.proofs.write.is_all_text.Goals as goal

pub returns : goal.returns
returns c = ap (λ n. eqb n (length c.args.run.now)) c.text_length.ensures ∙ all_of_run is_text c.args.run.now
