use Rattle.ds_state.specs.Calls.{cell_pairs}
use Rattle.terminal_calls.proofs.texts.cells_left.Goals as goal

pub returns : goal.returns
returns c = c.leave.ensures (λ v. cell_pairs v.cells) c.args.state.now c.read_cells-found.ensures
