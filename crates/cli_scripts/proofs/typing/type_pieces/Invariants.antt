use Rattle.std.proofs.Common.{◌≡◌, length}
use Rattle.cli_scripts.specs.TypedTexts.{WentOn}
use Rattle.cli_scripts.specs.Acts.{PressesOnly}
use Rattle.cli_scripts.specs.Desks.{Keeps}
use Rattle.cli_scripts.proofs.typing.type_pieces.Given as goal

abbrev pub invariant-pieces : goal.invariant-pieces
invariant-pieces l =
    record {
      keeps : Keeps l.initial.desk l.desk;
      deeds : PressesOnly l.initial.desk l.desk;
      went : WentOn l.code_page l.fills l.initial.desk.talk l.text l.rest l.initial.desk l.desk l.initial.saying l.saying;
      host : l.desk.host ≡ l.initial.desk.host;
    }

abbrev pub decreases-pieces : goal.decreases-pieces
decreases-pieces l = length l.rest
