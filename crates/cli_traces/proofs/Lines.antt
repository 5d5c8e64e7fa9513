-- What a line adds.
use Rattle.std.proofs.Common.{◌≡◌, ℕ, List, ◌++◌, Ok, Err, refl, sym, ◌∙◌, ap, append_assoc}
use Rattle.std.specs.Prelude.{Result, IfOk, OnOk}
use Rattle.std.specs.declared.alloc.AllocError.{AllocError}
use Rattle.tn_session.specs.declared.fault.RunFault.{RunFault}
use Rattle.tn_session.specs.declared.fault.RunFault.TheVariants.{Wire, Header, Session, Inbound, Bind, OutOfMemory}
use Rattle.tn_session.specs.OneLog.{waits, has_failed, is_at_fault}
use Rattle.tn_traces.specs.declared.line.Side.{Side}
use Rattle.cli_traces.specs.declared.asked.Asked.{Asked}
use Rattle.cli_traces.specs.declared.follower.Follower.{Follower}
use Rattle.cli_traces.specs.declared.line.Next.{Next}
use Rattle.cli_traces.specs.declared.line.Next.TheVariants.{Goes, Stops}
use Rattle.cli_traces.specs.Following.{Following, goes, stops, open_of, AddsPiece}
use Rattle.cli_traces.specs.Held.{AddsFault, IsReady, TakesSide, course_seen}
use Rattle.cli_traces.specs.Text.{fault_text, wire_name, header_name, other_size_name}

module _ (asked : Asked) (number : ℕ) (side : Side) (old : Following) (piece text : List ℕ) where
  pub piece_goes_on : (new : Following) (added : List ℕ)
      → TakesSide (record { asked = asked; side = side; line = number }) side old piece text (Ok tt) new added
      → (x : List ℕ) × (added ≡ text ++ x) × AddsPiece asked number side old piece x (goes new)
  piece_goes_on new added w = (
    w.0.0,
    w.0.2,
    record { due = w.0.0; standing = waits new.reading (open_of side new); log = w.0.1; adds = (refl, ap goes w.1) },
  )

  adds_fault : (why : RunFault) (new : Following) (mid added : List ℕ)
      → TakesSide (record { asked = asked; side = side; line = number }) side old piece text (Err why) new mid
      → AddsFault number why mid added
      → (x : List ℕ) × (added ≡ text ++ x) × AddsPiece asked number side old piece x stops
  adds_fault (Wire fault) new mid added w more = (
    w.0.0 ++ fault_text number (wire_name fault),
    more ∙ ap (λ z. z ++ fault_text number (wire_name fault)) w.0.2 ∙ append_assoc text w.0.0 (fault_text number (wire_name fault)),
    record { due = w.0.0; standing = is_at_fault fault new.reading; log = w.0.1; adds = (refl, refl) },
  )
  adds_fault (Header fault) new mid added w more = (
    w.0.0 ++ fault_text number (header_name fault),
    more ∙ ap (λ z. z ++ fault_text number (header_name fault)) w.0.2 ∙ append_assoc text w.0.0 (fault_text number (header_name fault)),
    record { due = w.0.0; standing = has_failed (Header fault) new.reading; log = w.0.1; adds = (refl, refl) },
  )
  adds_fault (Session fault) new mid added w more = (
    w.0.0 ++ fault_text number other_size_name,
    more ∙ ap (λ z. z ++ fault_text number other_size_name) w.0.2 ∙ append_assoc text w.0.0 (fault_text number other_size_name),
    record { due = w.0.0; standing = has_failed (Session fault) new.reading; log = w.0.1; adds = (refl, refl) },
  )
  adds_fault (Inbound fault) new mid added w more = absurd more
  adds_fault (Bind fault) new mid added w more = absurd more
  adds_fault OutOfMemory new mid added w more = absurd more

  pub piece_stops : (why : RunFault) (new : Following) (mid added : List ℕ) (result : Result Next AllocError)
      → TakesSide (record { asked = asked; side = side; line = number }) side old piece text (Err why) new mid
      → OnOk result (AddsFault number why mid added) → IfOk result (λ next. next ≡ Stops)
      → IfOk result (λ next. (x : List ℕ) × (added ≡ text ++ x) × AddsPiece asked number side old piece x (course_seen next new))
  piece_stops why new mid added (Ok next) went more last = rw last (adds_fault why new mid added went more)
  piece_stops why new mid added (Err e) went more last = tt

pub is_last : (follower : Follower) (result : Result Next AllocError) → IfOk result (λ next. next ≡ Stops) → IfOk result (λ next. next ≡ Goes → IsReady follower)
is_last follower (Ok next) last = λ goes. absurd (clash (sym last ∙ goes))
  where
    clash : Stops ≡ Goes → ⊥
    clash same = cc
is_last follower (Err e) last = tt
