use Rattle.std.proofs.Common.{ℕ, Vec, Global, List}
use Rattle.script_screens.specs.Status.{link_seen}
use Rattle.script_screens.specs.Query.{device_seen}
use Rattle.script_screens.proofs.Items.{many_words}
use Rattle.script_screens.proofs.query.push_query.Goals as goal

abbrev bytes_of : Vec ℕ Global → List ℕ
bytes_of argument = argument.items

pub returns-in_default : goal.returns-in_default
returns-in_default c =
    rw (many_words bytes_of c.args.screen.now (link_seen c.args.connection) (device_seen c.args.device) c.args.query c.args.arguments.now c.in_default.len_at_least)
    (rw c.query_name.ensures at c.push_fault.ensures)
