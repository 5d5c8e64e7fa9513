use Rattle.cli_traces.proofs.Sizes.{sizes_are_read}
use Rattle.cli_traces.proofs.law.sizes_law.Goals as goal

pub returns : goal.returns
returns c = sizes_are_read
