-- What inputs lead to, as the program holds it.
use Rattle.cli_commands.specs.Held.{records_held, answer_seen}
use Rattle.cli_sessions.specs.declared.screen.Prepared as held
use Rattle.cli_sessions.specs.declared.screen.Prepared.TheVariants as variants
use Rattle.cli_sessions.specs.Prepare.{Prepared, ready, stops}

abbrev pub prepared_seen : held.Prepared → Prepared
prepared_seen (variants.Ready screen) = ready screen.layout (records_held screen.records.items)
prepared_seen (variants.Stops answer) = stops (answer_seen answer)
