use Rattle.ds_inbound.specs.Answer.{bytes_sent}
use Rattle.terminal_calls.proofs.texts.modified_left.Goals as goal

pub returns : goal.returns
returns c = c.leave.ensures (λ v. bytes_sent v c.args.all) c.args.state.now c.read_modified-found.ensures
