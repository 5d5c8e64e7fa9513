use Rattle.std.specs.String.{string_bytes}
use Rattle.cli_traces.specs.Held.{following_seen}
use Rattle.cli_traces.proofs.Lines.{piece_goes_on, piece_stops, is_last}
use Rattle.cli_traces.proofs.line.take_piece_line.Goals as goal

pub returns-in-Ok-clause-adds : goal.returns-in-Ok-clause-adds
returns-in-Ok-clause-adds c =
    piece_goes_on c.args.asked c.args.number c.args.side (following_seen c.args.follower.now) c.args.piece.now (string_bytes c.args.out.now)
    (following_seen c.take.new.self) (string_bytes c.take.new.out) c.in-Ok.ensures.taken

pub returns-in-Err-clause-adds : goal.returns-in-Err-clause-adds
returns-in-Err-clause-adds c =
    piece_stops c.args.asked c.args.number c.args.side (following_seen c.args.follower.now) c.args.piece.now (string_bytes c.args.out.now)
    c.in-Err.fault (following_seen c.take.new.self) (string_bytes c.take.new.out) (string_bytes c.push_run_fault.new.out)
    c.push_run_fault.result c.in-Err.ensures.taken c.push_run_fault.ensures.text c.push_run_fault.ensures.stops

pub returns-in-Err-clause-ready : goal.returns-in-Err-clause-ready
returns-in-Err-clause-ready c = is_last c.take.new.self c.push_run_fault.result c.push_run_fault.ensures.stops
