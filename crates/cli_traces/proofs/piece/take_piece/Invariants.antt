use Rattle.std.proofs.Common.{length}
use Rattle.std.specs.String.{string_bytes}
use Rattle.cli_traces.specs.Reading.{event_log}
use Rattle.cli_traces.proofs.Pieces.{PieceSoFar}
use Rattle.cli_traces.proofs.piece.take_piece.Given as goal

abbrev pub invariant-events : goal.invariant-events
invariant-events l =
    PieceSoFar (event_log l.task.asked l.task.side l.task.line) l.initial.deframer.content l.initial.reading l.piece (string_bytes l.initial.out)
    l.deframer l.count l.reading (string_bytes l.out) l.rest

abbrev pub decreases-events : goal.decreases-events
decreases-events l = length l.rest
