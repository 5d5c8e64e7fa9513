use Rattle.std.proofs.Common.{◌≡◌, length}
use Rattle.tn_session.specs.Noted.{note_bytes}
use Rattle.tn_session.proofs.noted.NotedText.note.Given as goal

abbrev pub invariant-bytes : goal.invariant-bytes
invariant-bytes l = note_bytes l.initial.self l.bytes ≡ note_bytes l.self l.rest

abbrev pub decreases-bytes : goal.decreases-bytes
decreases-bytes l = length l.rest
