-- What lines say and what records hold, as the program has them.
use Rattle.tn_traces.specs.declared.line.Said as held
use Rattle.tn_traces.specs.declared.line.Said.TheVariants as line
use Rattle.tn_traces.specs.declared.record.Kept as held_record
use Rattle.tn_traces.specs.Line.{Said, nothing, connected, piece, bad}
use Rattle.tn_traces.specs.Record.{Kept}

abbrev pub said_seen : held.Said → Said
said_seen line.Nothing = nothing
said_seen line.Connected = connected
said_seen (line.Piece side bytes) = piece side bytes.items
said_seen line.Bad = bad

abbrev pub kept_seen : held_record.Kept → Kept
kept_seen kept = record { header = kept.header; body = kept.body.now }
