-- A dialogue as the program holds it.
use Rattle.scr_check.specs.TalkSeen.{stop_in}
use Rattle.cli_commands.specs.declared.commands.talked.Talked as held
use Rattle.cli_commands.specs.Talked.{Judged}
use Rattle.cli_commands.specs.TurnsHeld.{turns_held}

abbrev pub talked_seen : held.Talked → Judged
talked_seen talked = record { layouts = talked.layouts.items; turns = turns_held talked.turns.items; stop = stop_in talked.verdict }
