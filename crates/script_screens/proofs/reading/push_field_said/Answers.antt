use Rattle.std.proofs.Common.{ℕ, Vec, Global, List}
use Rattle.script_screens.proofs.Fields.{with_arguments}
use Rattle.script_screens.proofs.reading.push_field_said.Goals as goal

abbrev bytes_of : Vec ℕ Global → List ℕ
bytes_of argument = argument.items

pub returns-in_default : goal.returns-in_default
returns-in_default c =
    rw (with_arguments bytes_of c.args.code_page c.args.form c.args.screen.now c.args.name.now c.args.arguments.now c.in_default.len_at_least) c.push_fault.ensures
