use Rattle.std.proofs.Common.{map, ◌∙◌, ap}
use Rattle.cli_commands.specs.Held.{answer_seen}
use Rattle.cli_commands.specs.Talk.{talk}
use Rattle.cli_commands.proofs.Turned.{beside_text, gives_texts}
use Rattle.cli_commands.proofs.commands.talk.talk_texts.Goals as goal

pub returns : goal.returns
returns c =
    gives_texts (λ source. source.0.now) answer_seen (λ texts. talk texts c.args.records.now) c.as_mut_slice.result.now c.talk_read.new.layouts _ c.talk_read.result
    (ap (map (λ source. source.0.now)) c.as_mut_slice.ensures.value ∙ c.in_ok-sources.ensures) c.talk_read.ensures.answer (beside_text _ _ c.talk_read.result c.talk_read.ensures.cause)
