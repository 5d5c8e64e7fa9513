use Rattle.std.proofs.Common.{◌≡◌, ◌++◌, length}
use Rattle.std.specs.String.{string_bytes}
use Rattle.cli_traces.specs.Fields.{fields_in, drawn_of}
use Rattle.cli_traces.specs.Reading.{bodies_text, bodies_after}
use Rattle.cli_traces.proofs.record.take_drawn.Given as goal

-- what was taken, and what is to be
abbrev pub invariant-loop-field : goal.invariant-loop-field
invariant-loop-field l = record {
  text : string_bytes l.out ++ bodies_text l.task.asked l.task.side l.task.line l.header l.reading (drawn_of (fields_in l.rest))
      ≡ string_bytes l.fn.out ++ bodies_text l.task.asked l.task.side l.task.line l.header l.fn.reading (drawn_of (fields_in l.fields));
  known : bodies_after l.task.asked l.task.side l.reading (drawn_of (fields_in l.rest))
      ≡ bodies_after l.task.asked l.task.side l.fn.reading (drawn_of (fields_in l.fields));
}

abbrev pub decreases-loop-field : goal.decreases-loop-field
decreases-loop-field l = length l.rest
