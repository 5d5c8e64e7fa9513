-- What taking an event and a piece does to the text, for the code's own proofs.
use Rattle.std.specs.Prelude.{◌≡◌, ℕ, List, ◌++◌, Result, Ok, Err}
use Rattle.tn_session.specs.declared.fault.RunFault.{RunFault}
use Rattle.tn_session.specs.declared.fault.RunFault.TheVariants.{Wire, Header, Session, Inbound, Bind, OutOfMemory}
use Rattle.tn_session.specs.Runs.{Log, fails, going, failed, GoesOn, EndsBy, EndsAtFault}
use Rattle.tn_wire.specs.Stream.{Told}
use Rattle.cli_traces.specs.declared.reading.Reading.{Reading}

-- one event: its log is due, or memory was refused
abbrev pub TakesEvent : Log Reading → List ℕ → Result (Unit {0}) RunFault → Reading → List ℕ → Type 0
TakesEvent log old (Ok done) next new = (due : List ℕ) × (log ≡ going due next) × (new ≡ old ++ due)
TakesEvent log old (Err (Header fault)) next new = (log ≡ failed (Header fault) next) × (new ≡ old)
TakesEvent log old (Err OutOfMemory) next new = Unit {0}
TakesEvent log old (Err (Wire fault)) next new = ⊥
TakesEvent log old (Err (Session fault)) next new = (log ≡ failed (Session fault) next) × (new ≡ old)
TakesEvent log old (Err (Inbound fault)) next new = ⊥
TakesEvent log old (Err (Bind fault)) next new = ⊥

-- a piece, where so much of the stream was open before it
abbrev pub TakesPiece : (Reading → Told → Log Reading) → List ℕ → Reading → List ℕ → List ℕ → Result (Unit {0}) RunFault → List ℕ → Reading → List ℕ → Type 0
TakesPiece act before first piece old (Ok done) left next new = (due : List ℕ) × GoesOn act before first piece due next left × (new ≡ old ++ due)
TakesPiece act before first piece old (Err (Wire fault)) left next new = (due : List ℕ) × EndsAtFault act before first piece due fault next × (new ≡ old ++ due)
TakesPiece act before first piece old (Err (Header fault)) left next new = (due : List ℕ) × EndsBy act before first piece due (fails (Header fault) next) × (new ≡ old ++ due)
TakesPiece act before first piece old (Err OutOfMemory) left next new = Unit {0}
TakesPiece act before first piece old (Err (Session fault)) left next new = (due : List ℕ) × EndsBy act before first piece due (fails (Session fault) next) × (new ≡ old ++ due)
TakesPiece act before first piece old (Err (Inbound fault)) left next new = ⊥
TakesPiece act before first piece old (Err (Bind fault)) left next new = ⊥
