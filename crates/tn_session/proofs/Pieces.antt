-- Pieces of a stream that a session is given, as one.
use Rattle.std.proofs.Common.{◌≡◌, ℕ, List, [], ◌∷◌, ◌++◌, Ok, Err, refl, sym, ◌∙◌, ap, subst}
use Rattle.std.specs.Prelude.{Result}
use Rattle.std.proofs.lemmas.List.{append-nil}
use Rattle.tn_wire.specs.Stream.{Told, Tells}
use Rattle.tn_wire.proofs.Streams.{tells_nothing}
use Rattle.tn_cores.specs.declared.session.SessionFault.TheVariants.{Rejected, WrongList, BadSubnegotiation, OptionRefused, NotReady, BadResponse, TooManyReads, LineFault, NoDevice, Closed, TerminalRefused}
use Rattle.tn_session.specs.declared.fault.RunFault.{RunFault}
use Rattle.tn_session.specs.declared.fault.RunFault.TheVariants as faults
use Rattle.tn_session.specs.declared.progress.Progress.{Progress}
use Rattle.tn_session.specs.declared.progress.Progress.TheVariants.{More, Done}
use Rattle.tn_session.specs.OneLog.{Standing, waits, is_over, has_failed, is_at_fault, HasLog}
use Rattle.tn_session.specs.Pieces.{LogOn, whole_of, TakesAll, PiecesHaveLog, CutsAgree}
use Rattle.tn_session.specs.Ran.{cause_of}
use Rattle.tn_session.specs.Runs.{Log, finishes, fails, GoesOn}
use Rattle.tn_session.specs.Talk.{Talk, stands, starved, failed_talk, PieceFails, Hears, Takes}
use Rattle.tn_session.proofs.OneLog.{have_one_log, still_ends, still_faults}
use Rattle.tn_session.proofs.RunLaws.{open_tells, nothing_yet, goes-goes, goes-ends, goes-fault}
use Rattle.tn_session.proofs.RunSteps.{ends_piece}

-- what is open of a stream tells no event
abbrev pub IsOpenAt : {State : Type 0} → Standing State → Type 0
IsOpenAt (waits state left) = Tells left [] left
IsOpenAt standing = Unit {0}

pub stands_same : {State : Type 0} {a b : Standing State} → stands a ≡ stands b → a ≡ b
stands_same e = cc

module _ {State : Type 0} (act : State → Told → Log State) where
  pub log_on_nothing : (a : Standing State) → IsOpenAt a → LogOn act a [] [] a
  log_on_nothing (waits s l) opens = nothing_yet act l s opens
  log_on_nothing (is_over s) opens = (refl, refl)
  log_on_nothing (has_failed why s) opens = (refl, refl)
  log_on_nothing (is_at_fault fault s) opens = (refl, refl)

  ended_then : (a m n : Standing State) (x y d e : List ℕ) → LogOn act a x d m → (e ≡ []) × (n ≡ m) → LogOn act a (x ++ y) d m → LogOn act a (x ++ y) (d ++ e) n
  ended_then a m n x y d e log (none, same) whole =
      subst (λ z. LogOn act a (x ++ y) z n) (sym (ap (λ z. d ++ z) none ∙ append-nil d)) (subst (λ z. LogOn act a (x ++ y) d z) (sym same) whole)

  goes_then : (s : State) (l : List ℕ) (m : State) (k : List ℕ) (n : Standing State) (x y d e : List ℕ) → GoesOn act l s x d m k → HasLog act k m y e n
      → HasLog act l s (x ++ y) (d ++ e) n
  goes_then s l m k (waits n o) x y d e p q = goes-goes act l x y d e k o s m n p q
  goes_then s l m k (is_over n) x y d e p q = goes-ends act l x y d e k s m (finishes n) p q
  goes_then s l m k (has_failed why n) x y d e p q = goes-ends act l x y d e k s m (fails why n) p q
  goes_then s l m k (is_at_fault fault n) x y d e p q = goes-fault act l x y d e k s m n fault p q

  pub log_on_then : (a m n : Standing State) (x y d e : List ℕ) → LogOn act a x d m → LogOn act m y e n → LogOn act a (x ++ y) (d ++ e) n
  log_on_then (waits s l) (waits m k) n x y d e p q = goes_then s l m k n x y d e p q
  log_on_then (waits s l) (is_over m) n x y d e p q = ended_then (waits s l) (is_over m) n x y d e p q (still_ends act l x y d s (finishes m) p)
  log_on_then (waits s l) (has_failed w m) n x y d e p q = ended_then (waits s l) (has_failed w m) n x y d e p q (still_ends act l x y d s (fails w m) p)
  log_on_then (waits s l) (is_at_fault w m) n x y d e p q = ended_then (waits s l) (is_at_fault w m) n x y d e p q (still_faults act l x y d s m w p)
  log_on_then (is_over s) m n x y d e (none, same) q =
      let r : LogOn act (is_over s) y e n = subst (λ z. LogOn act z y e n) same q in (ap (λ z. z ++ e) none ∙ r.0, r.1)
  log_on_then (has_failed w s) m n x y d e (none, same) q =
      let r : LogOn act (has_failed w s) y e n = subst (λ z. LogOn act z y e n) same q in (ap (λ z. z ++ e) none ∙ r.0, r.1)
  log_on_then (is_at_fault w s) m n x y d e (none, same) q =
      let r : LogOn act (is_at_fault w s) y e n = subst (λ z. LogOn act z y e n) same q in (ap (λ z. z ++ e) none ∙ r.0, r.1)

  pub log_on_once : (a m n : Standing State) (x d e : List ℕ) → LogOn act a x d m → LogOn act a x e n → (d ≡ e) × (m ≡ n)
  log_on_once (waits s l) m n x d e p q = have_one_log act l s x d e m n p q
  log_on_once (is_over s) m n x d e p q = (p.0 ∙ sym q.0, p.1 ∙ sym q.1)
  log_on_once (has_failed w s) m n x d e p q = (p.0 ∙ sym q.0, p.1 ∙ sym q.1)
  log_on_once (is_at_fault w s) m n x d e p q = (p.0 ∙ sym q.0, p.1 ∙ sym q.1)

  -- ---- one call

  log_at : (l : List ℕ) (s : State) (x d : List ℕ) (m n : Standing State) → HasLog act l s x d n → stands m ≡ stands n → HasLog act l s x d m
  log_at l s x d m n log is = subst (λ z. HasLog act l s x d z) (sym (stands_same is)) log

  fails_log : (l : List ℕ) (s : State) (x : List ℕ) (why : RunFault) (d : List ℕ) (n : State) (m : Standing State) → PieceFails act l s x why d n (cause_of why)
      → stands m ≡ failed_talk why n → HasLog act l s x d m
  fails_log l s x (faults.Wire fault) d n m went is = log_at l s x d m (is_at_fault fault n) went.0 is
  fails_log l s x faults.OutOfMemory d n m went is = let clash : ◌≡◌ {A = Talk State} (stands m) starved = is in absurd cc
  fails_log l s x (faults.Header fault) d n m went is = log_at l s x d m (has_failed (faults.Header fault) n) went.0 is
  fails_log l s x (faults.Inbound fault) d n m went is = log_at l s x d m (has_failed (faults.Inbound fault) n) went.0 is
  fails_log l s x (faults.Bind fault) d n m went is = log_at l s x d m (has_failed (faults.Bind fault) n) went.0 is
  fails_log l s x (faults.Session WrongList) d n m went is = log_at l s x d m (has_failed (faults.Session WrongList) n) went.0 is
  fails_log l s x (faults.Session BadSubnegotiation) d n m went is = log_at l s x d m (has_failed (faults.Session BadSubnegotiation) n) went.0 is
  fails_log l s x (faults.Session NotReady) d n m went is = log_at l s x d m (has_failed (faults.Session NotReady) n) went.0 is
  fails_log l s x (faults.Session BadResponse) d n m went is = log_at l s x d m (has_failed (faults.Session BadResponse) n) went.0 is
  fails_log l s x (faults.Session NoDevice) d n m went is = log_at l s x d m (has_failed (faults.Session NoDevice) n) went.0 is
  fails_log l s x (faults.Session (Rejected code)) d n m went is = log_at l s x d m (has_failed (faults.Session (Rejected code)) n) went.0 is
  fails_log l s x (faults.Session (OptionRefused code)) d n m went is = log_at l s x d m (has_failed (faults.Session (OptionRefused code)) n) went.0 is
  fails_log l s x (faults.Session (TerminalRefused code)) d n m went is = log_at l s x d m (has_failed (faults.Session (TerminalRefused code)) n) went.0 is
  fails_log l s x (faults.Session TooManyReads) d n m went is = absurd went
  fails_log l s x (faults.Session LineFault) d n m went is = absurd went
  fails_log l s x (faults.Session Closed) d n m went is = absurd went

  hears_log : (l : List ℕ) (s : State) (x : List ℕ) (result : Result Progress RunFault) (d : List ℕ) (m : Standing State) → Hears act l s x result d (stands m) → HasLog act l s x d m
  hears_log l s x (Ok More) d m (next, left, log, is) = log_at l s x d m (waits next left) log is
  hears_log l s x (Ok (Done taken)) d m (end, few, e, is) = log_at l s x d m (is_over end) (ends_piece act l s end x d taken e) is
  hears_log l s x (Err why) d m (end, went, is) = fails_log l s x why d end m went is

  pub takes_log : (a m : Standing State) (x : List ℕ) (result : Result Progress RunFault) (d : List ℕ) → Takes act (stands a) x result d (stands m) → LogOn act a x d m
  takes_log (waits s l) m x result d takes = hears_log l s x result d m takes
  takes_log (is_over s) m x result d takes = (takes.1, stands_same takes.2)
  takes_log (has_failed w s) m x result d takes = (takes.1, stands_same takes.2)
  takes_log (is_at_fault w s) m x result d takes = (takes.1, stands_same takes.2)

  open_log : (l : List ℕ) (s : State) (x d : List ℕ) (m : Standing State) → HasLog act l s x d m → IsOpenAt m
  open_log l s x d (waits n k) log = open_tells (l ++ x) k log.events log.tells
  open_log l s x d (is_over n) log = tt
  open_log l s x d (has_failed w n) log = tt
  open_log l s x d (is_at_fault w n) log = tt

  pub log_on_open : (a m : Standing State) (x d : List ℕ) → IsOpenAt a → LogOn act a x d m → IsOpenAt m
  log_on_open (waits s l) m x d opens log = open_log l s x d m log
  log_on_open (is_over s) m x d opens log = subst IsOpenAt (sym log.1) tt
  log_on_open (has_failed w s) m x d opens log = subst IsOpenAt (sym log.1) tt
  log_on_open (is_at_fault w s) m x d opens log = subst IsOpenAt (sym log.1) tt

  -- ---- any calls

  starved_all : (pieces : List (List ℕ)) (given : List ℕ) (n : Standing State) → TakesAll act starved pieces given (stands n) → ⊥
  starved_all [] given n (none, is) = let clash : ◌≡◌ {A = Talk State} (stands n) starved = is in absurd cc
  starved_all (piece ∷ pieces) given n (result, first, mid, rest, takes, later, is) =
      starved_all pieces rest n (subst (λ t. TakesAll act t pieces rest (stands n)) takes.2 later)

  all_log : (a n : Standing State) (pieces : List (List ℕ)) (given : List ℕ) → IsOpenAt a → TakesAll act (stands a) pieces given (stands n)
      → LogOn act a (whole_of pieces) given n
  all_log a n [] given opens (none, is) =
      subst (λ z. LogOn act a [] z n) (sym none) (subst (λ z. LogOn act a [] [] z) (sym (stands_same is)) (log_on_nothing a opens))
  all_log a n (piece ∷ pieces) given opens (result, first, stands m, rest, takes, later, is) =
      let log : LogOn act a piece first m = takes_log a m piece result first takes in
      subst (λ z. LogOn act a (piece ++ whole_of pieces) z n) (sym is)
      (log_on_then a m n piece (whole_of pieces) first rest log (all_log m n pieces rest (log_on_open a m piece first opens log) later))
  all_log a n (piece ∷ pieces) given opens (result, first, starved, rest, takes, later, is) = absurd (starved_all pieces rest n later)

pub pieces_have_log : {State : Type 0} → PiecesHaveLog State
pieces_have_log act state pieces given new takes = all_log act (waits state []) new pieces given tells_nothing takes

pub cuts_agree : {State : Type 0} → CutsAgree State
cuts_agree act state pieces others given more new other same takes then_takes =
    have_one_log act [] state (whole_of others) given more new other
    (subst (λ z. HasLog act [] state z given new) same (pieces_have_log act state pieces given new takes)) (pieces_have_log act state others more other then_takes)
