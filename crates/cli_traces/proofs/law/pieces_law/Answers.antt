use Rattle.cli_traces.proofs.Bytes.{pieces_add_whole, adds_one_text, cuts_agree}
use Rattle.cli_traces.proofs.law.pieces_law.Goals as goal

pub returns : goal.returns
returns c = record { whole = pieces_add_whole; one = adds_one_text; cuts = cuts_agree }
