-- Every pair that is reached stands at a stage, where each step leads to a lower one: of a terminal of any kind.
use Rattle.std.proofs.Common.{ℕ, ◌≡◌, ◌≤◌, ◌+◌, List, [], ◌∷◌, length, Option, Some, None, subst, sym, arith}
use Rattle.std.specs.Option.{option_and_then}
use Rattle.tn_cores.specs.Pair.{TerminalKind, SessionPair, End, Ends, start, pair_step, pair_after, Reaches}
use Rattle.tn_cores.proofs.PairWords.{Leads, Holds}

-- a pair that stands at a stage, at most so many steps from the end
pub record At {T : Type 0} (Stage : Type 0) (state : Stage → SessionPair T) (rank : Stage → ℕ) (p : SessionPair T) (steps most : ℕ) : Type 0 where
  pub stage : Stage
  pub here : p ≡ state stage
  pub low : rank stage + steps ≤ most

-- where a pair begins
pub record Begins {T : Type 0} (kind : TerminalKind T) (Stage : Type 0) (state : Stage → SessionPair T) (rank : Stage → ℕ) (made : Ends) : Type 0 where
  pub stage : Stage
  pub here : start kind made ≡ state stage
  pub low : rank stage ≤ 14

module _ {T : Type 0} (kind : TerminalKind T) (Stage : Type 0) (state : Stage → SessionPair T) (rank : Stage → ℕ)
    (next : (s : Stage) (end : End) → Leads Stage state rank (rank s) (pair_step kind (state s) end)) where
  goes : (end : End) (ends : List End) (n : ℕ) (p : SessionPair T) (o : Option (SessionPair T))
      → ((t : Stage) → pair_after kind ends (state t) ≡ Some p → At Stage state rank p (length ends) (rank t))
      → Leads Stage state rank n o → option_and_then (pair_after kind ends) o ≡ Some p → At Stage state rank p (length (end ∷ ends)) n
  goes end ends n p None later leads e = cc
  goes end ends n p (Some q) later (t, q_is, lower) e =
      let rest : At Stage state rank p (length ends) (rank t) = later t (rw (← q_is) e) in
      record { stage = rest.stage; here = rest.here; low = omega (arith, rest.low) }

  reach : (ends : List End) (s : Stage) (p : SessionPair T) → pair_after kind ends (state s) ≡ Some p → At Stage state rank p (length ends) (rank s)
  reach [] s p e = record { stage = s; here = cc; low = omega arith }
  reach (end ∷ ends) s p e =
      goes end ends (rank s) p (pair_step kind (state s) end) (λ t later. reach ends t p later) (next s end) e

  reached : (made : Ends) (from : Begins kind Stage state rank made) (steps : List End) (p : SessionPair T) → Reaches kind made steps p
      → At Stage state rank p (length steps) (rank from.stage)
  reached made from steps p e = reach steps from.stage p (rw (← from.here) e)

  pub holds_of : (Settled : SessionPair T → Type 0) → ((s : Stage) → Holds kind Settled (state s))
      → (made : Ends) → Begins kind Stage state rank made → (steps : List End) (p : SessionPair T) → Reaches kind made steps p → Holds kind Settled p
  holds_of Settled holds made from steps p e =
      let at : At Stage state rank p (length steps) (rank from.stage) = reached made from steps p e in
      subst (Holds kind Settled) (sym at.here) (holds at.stage)

  pub ends_of : (made : Ends) → Begins kind Stage state rank made → (steps : List End) (p : SessionPair T) → Reaches kind made steps p → length steps ≤ 14
  ends_of made from steps p e = omega (arith, (reached made from steps p e).low, from.low)
