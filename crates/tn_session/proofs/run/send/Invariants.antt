use Rattle.std.proofs.Common.{◌≡◌, List, ℕ, ◌++◌, length, None}
use Rattle.tn_session.proofs.run.send.Given as goal
use Rattle.tn_session.specs.Ran.{SentOn}

abbrev pub invariant-writes : goal.invariant-writes
invariant-writes g l = (part : List ℕ) × (l.bytes ≡ part ++ l.rest) × SentOn l.initial.wire l.wire part None

abbrev pub decreases-writes : goal.decreases-writes
decreases-writes g l = length l.rest
