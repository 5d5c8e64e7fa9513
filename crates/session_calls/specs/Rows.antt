-- A session and what is due, as the logic has them.
use denote.RattleType.{RattleType}
use Rattle.session_calls.specs.contracts.talking.Talking.{the_row}

abbrev pub line_row : RattleType
line_row = the_row
