use Rattle.std.proofs.lemmas.Result.{on_ok_weaker}
use Rattle.cli_scripts.proofs.Typed.{one_pressed}
use Rattle.cli_scripts.proofs.typing.press_string_key.Goals as goal

pub returns-in-Some-clause-deeds : goal.returns-in-Some-clause-deeds
returns-in-Some-clause-deeds c =
    on_ok_weaker c.press.result (one_pressed c.args.desk.now c.press.new.self c.in-Some.key) c.press.ensures.typed
