use Rattle.ds_inbound.specs.Answer.{buffer_of}
use Rattle.terminal_calls.proofs.texts.buffer_left.Goals as goal

pub returns : goal.returns
returns c = c.leave.ensures buffer_of c.args.state.now c.read_buffer-found.ensures
