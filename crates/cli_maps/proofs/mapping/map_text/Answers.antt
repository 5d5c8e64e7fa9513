use Rattle.std.specs.Prelude.{ℕ, List}
use Rattle.std.specs.Borrow.{Bor}
use Rattle.cli_commands.specs.Lines.{within_limit}
use Rattle.cli_maps.specs.Asked.{name_in}
use Rattle.cli_commands.specs.Held.{answer_seen}
use Rattle.cli_maps.specs.Printed.{map_told}
use Rattle.cli_maps.proofs.Read.{goes, stops}
use Rattle.cli_maps.proofs.mapping.map_text.Goals as goal

pub returns-in-Ok : goal.returns-in-Ok
returns-in-Ok c = goes (within_limit c.args.source.now) c.in-Ok.source.now (map_told c.args.form (name_in c.args.asked.name) c.args.asked.control) c.map_within.result c.in-Ok.ensures.bytes c.map_within.ensures

pub returns-in-Err : goal.returns-in-Err
returns-in-Err c = stops (λ (t : Bor (List ℕ)). t.now) answer_seen c.in-Err.error (within_limit c.args.source.now) (map_told c.args.form (name_in c.args.asked.name) c.args.asked.control) c.in-Err.ensures.bytes
