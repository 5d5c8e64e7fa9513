use Rattle.std.proofs.lemmas.Result.{on_ok_weaker}
use Rattle.cli_scripts.proofs.Typed.{more_pressed}
use Rattle.cli_scripts.proofs.typing.type_free.Goals as goal

pub returns-in-End-clause-deeds : goal.returns-in-End-clause-deeds
returns-in-End-clause-deeds c =
    on_ok_weaker c.return_to.result (more_pressed c.args.desk.now c.type_pieces.new.desk c.return_to.new.desk c.in_ok-type_pieces.ensures.deeds)
    c.return_to.ensures.deeds
