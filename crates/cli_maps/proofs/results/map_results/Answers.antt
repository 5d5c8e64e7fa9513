use Rattle.std.proofs.Common.{List, ℕ}
use Rattle.std.specs.Borrow.{Bor}
use Rattle.cli_findings.specs.Results.{results_seen}
use Rattle.cli_commands.specs.Lines.{within_limit}
use Rattle.cli_maps.specs.Asked.{name_in}
use Rattle.cli_maps.specs.Results.{results_told}
use Rattle.cli_maps.proofs.Read.{stops}
use Rattle.cli_maps.proofs.results.map_results.Goals as goal

pub returns-in-Ok : goal.returns-in-Ok
returns-in-Ok c = rw c.in-Ok.ensures.bytes c.results_within.ensures

pub returns-in-Err : goal.returns-in-Err
returns-in-Err c =
    stops (λ (t : Bor (List ℕ)). t.now) results_seen c.in-Err.error (within_limit c.args.source.now)
    (results_told c.args.path.now (name_in c.args.asked.name) c.args.asked.control) c.in-Err.ensures.bytes
