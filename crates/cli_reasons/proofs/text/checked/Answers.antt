use Rattle.std.proofs.Common.{◌∙◌, ap}
use Rattle.std.proofs.lemmas.Str.{is_utf8-from_IsUtf8}
use Rattle.cli_reasons.specs.Text.{no_text_flaw}
use Rattle.cli_reasons.proofs.Texts.{is_no_text}
use Rattle.cli_reasons.proofs.text.checked.Goals as goal

pub returns-in-Ok : goal.returns-in-Ok
returns-in-Ok c = (c.in-Ok.ensures.cases.0, is_utf8-from_IsUtf8 c.args.line.now c.in-Ok.ensures.cases.1)

pub returns-in-Err : goal.returns-in-Err
returns-in-Err c = (
  c.no_text_flaw.ensures ∙ ap (no_text_flaw c.args.line.now) (c.valid_up_to.ensures ∙ c.in-Err.ensures.valid_len),
  is_no_text c.args.line.now c.in-Err.ensures.cases.0,
)
