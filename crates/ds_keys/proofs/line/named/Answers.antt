use Rattle.std.proofs.Common.{◌++◌, sym, ◌∙◌}
use Rattle.ds_keys.specs.Lines.{cursor_words, edit_words, sending_words}
use Rattle.ds_keys.proofs.LineLaws.{found_first, found_later}
use Rattle.ds_keys.proofs.line.named.Goals as goal

pub returns-in-Some-edit_key : goal.returns-in-Some-edit_key
returns-in-Some-edit_key c =
    found_later c.args.word.now cursor_words (edit_words ++ sending_words) _ (sym c.cursor_key.ensures ∙ c.in_default.is)
    (found_first c.args.word.now edit_words sending_words c.in-Some-edit_key.key (sym c.edit_key.ensures ∙ c.in-Some-edit_key.is))

pub returns : goal.returns
returns c =
    found_later c.args.word.now cursor_words (edit_words ++ sending_words) c.sending_key.result (sym c.cursor_key.ensures ∙ c.in_default.is)
    (found_later c.args.word.now edit_words sending_words c.sending_key.result (sym c.edit_key.ensures ∙ c.in_default-edit_key.is) c.sending_key.ensures)
