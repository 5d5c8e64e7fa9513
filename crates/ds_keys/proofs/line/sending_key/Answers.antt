use Rattle.ds_keys.proofs.LineLaws.{in_sending}
use Rattle.ds_keys.proofs.line.sending_key.Goals as goal

pub returns : goal.returns
returns c =
    in_sending c.args.word.now c.attention_key.result c.first_function.result c.middle_function.result c.last_function.result
    c.or.result c.or-functions.result c.or-2.result
    c.attention_key.ensures c.first_function.ensures c.middle_function.ensures c.last_function.ensures
    c.or.ensures c.or-functions.ensures c.or-2.ensures
