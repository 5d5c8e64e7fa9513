-- What holds between two events of a piece, and between two reads of a run.
use Rattle.std.proofs.Common.{◌≡◌, ℕ, ◌+◌, ◌*◌, ◌≤◌, List, [], ◌++◌, length, replicate, None}
use Rattle.tn_wire.specs.Deframer.{Held}
use Rattle.tn_wire.specs.Stream.{Told}
use Rattle.tn_session.specs.Wire.{WireState}
use Rattle.tn_session.specs.OneLog.{waits}
use Rattle.tn_session.specs.Runs.{Log, GoesOn}
use Rattle.tn_session.specs.Talk.{Talk, stands}

-- a front of the piece was taken, and what is due at it was given
pub record PieceSoFar {State : Type 0} (act : State → Told → Log State) (before : List ℕ) (first : State) (old : List ℕ)
    (piece : List ℕ) (held : Held) (now : State) (rest due : List ℕ) : Type 0 where
  pub taken : List ℕ
  pub given : List ℕ
  pub front : piece ≡ taken ++ rest
  pub log : GoesOn act before first taken given now held.content
  pub adds : due ≡ old ++ given
  pub fresh : held.fault ≡ None

-- so much was read in so many reads, and what is due was sent
pub record RunSoFar {State : Type 0} (act : State → Told → Log State) (opening : List ℕ) (begun : Talk State) (old : WireState)
    (talk : Talk State) (wire : WireState) (reads : ℕ) : Type 0 where
  pub first : State
  pub begins : begun ≡ stands (waits first [])
  pub stream : List ℕ
  pub due : List ℕ
  pub now : State
  pub left : List ℕ
  pub stands_so : talk ≡ stands (waits now left)
  pub log : GoesOn act [] first stream due now left
  pub received : wire.received ≡ old.received ++ stream
  pub sent : wire.sent ≡ old.sent ++ (opening ++ due)
  pub goes : wire.stop ≡ None
  pub counted : wire.reads ≡ old.reads + reads
  pub rooms : wire.rooms ≡ old.rooms ++ replicate reads 4096
  pub short : length wire.received ≤ length old.received + 4096 * reads
  pub line : wire.line ≡ old.line
  pub flushes : wire.flushes ≡ old.flushes
