-- A session that fails answers why, and stands so.
use Rattle.std.proofs.Common.{◌≡◌, ℕ, Bool, true, false, List, [], ◌∷◌, Some, None, Ok, Err, refl, sym, ap, ◌∙◌}
use Rattle.std.specs.Prelude.{Result}
use Rattle.tn_session.specs.declared.fault.RunFault.{RunFault}
use Rattle.tn_session.specs.declared.fault.RunFault.TheVariants.{Wire, Header, Session, Inbound, Bind, OutOfMemory}
use Rattle.tn_session.specs.declared.progress.Progress.{Progress}
use Rattle.tn_session.specs.declared.progress.Progress.TheVariants.{More, Done}
use Rattle.tn_session.specs.declared.terminal_state.TerminalState.{TerminalState}
use Rattle.tn_session.specs.OneLog.{waits, is_over, has_failed, is_at_fault}
use Rattle.tn_session.specs.Talk.{Talk, stands, starved, failed_talk, Hears, Takes}
use Rattle.tn_session.specs.TerminalTalk.{TerminalTakes, TakesAs, Tolerates, TakesByte, GoesOnBy, Ends, begins_between, heard_act, tolerates}
use Rattle.cli_scripts.specs.Desks.{fault_in, why_of}

failed_so : (why : RunFault) (state : TerminalState) → fault_in (failed_talk why state) ≡ Some why
failed_so (Wire fault) state = refl
failed_so (Header fault) state = refl
failed_so (Session fault) state = refl
failed_so (Inbound refused) state = refl
failed_so (Bind fault) state = refl
failed_so OutOfMemory state = refl

heard_fault : (state : TerminalState) (before piece : List ℕ) (result : Result Progress RunFault) (given : List ℕ) (new : Talk TerminalState)
    → Hears heard_act before state piece result given new → fault_in new ≡ why_of result
heard_fault state before piece (Ok More) given new (next, left, goes, is) = ap fault_in is
heard_fault state before piece (Ok (Done taken)) given new (end, bound, ends, is) = ap fault_in is
heard_fault state before piece (Err why) given new (end, fails, is) = ap fault_in is ∙ failed_so why end

taken_fault : (old : Talk TerminalState) (piece : List ℕ) (result : Result Progress RunFault) (given : List ℕ) (new : Talk TerminalState)
    → Takes heard_act old piece result given new → fault_in new ≡ why_of result
taken_fault (stands (waits state before)) piece result given new hears = heard_fault state before piece result given new hears
taken_fault (stands (is_over end)) piece result given new (is, none, same) = ap fault_in same ∙ sym (ap why_of is)
taken_fault (stands (has_failed why end)) piece result given new (is, none, same) = ap fault_in same ∙ sym (ap why_of is)
taken_fault (stands (is_at_fault fault end)) piece result given new (is, none, same) = ap fault_in same ∙ sym (ap why_of is)
taken_fault starved piece result given new (is, none, same) = ap fault_in same ∙ sym (ap why_of is)

ends_fault : (ends : Bool) (first : Result Progress RunFault) (due : List ℕ) (mid : Talk TerminalState) (result : Result Progress RunFault) (given : List ℕ)
    (new : Talk TerminalState) → fault_in mid ≡ why_of first → Ends ends first due mid result given new → fault_in new ≡ why_of result
ends_fault false first due mid result given new was (is, gave, same) = ap fault_in same ∙ was ∙ sym (ap why_of is)
ends_fault true first due mid result given new was (more, takes, grows) = taken_fault mid (255 ∷ 239 ∷ []) result more new takes

byte_fault : (old : Talk TerminalState) (byte : ℕ) (result : Result Progress RunFault) (given : List ℕ) (new : Talk TerminalState)
    → TakesByte old byte result given new → fault_in new ≡ why_of result
byte_fault old byte result given new (first, due, mid, takes, ends) =
    ends_fault (begins_between old mid) first due mid result given new (taken_fault old (byte ∷ []) first due mid takes) ends

on_fault : (bytes : List ℕ) (first : Result Progress RunFault) (due : List ℕ) (mid : Talk TerminalState) (result : Result Progress RunFault) (given : List ℕ)
    (new : Talk TerminalState) → fault_in mid ≡ why_of first
    → ((more : List ℕ) → fault_in mid ≡ None → Tolerates bytes mid result more new → fault_in new ≡ why_of result)
    → GoesOnBy (Tolerates bytes) first due mid result given new → fault_in new ≡ why_of result
on_fault bytes (Ok told) due mid result given new was later (more, takes, grows) = later more was takes
on_fault bytes (Err why) due mid result given new was later (is, gave, same) = ap fault_in same ∙ was ∙ sym (ap why_of is)

all_fault : (bytes : List ℕ) (old : Talk TerminalState) (result : Result Progress RunFault) (given : List ℕ) (new : Talk TerminalState)
    → fault_in old ≡ None → Tolerates bytes old result given new → fault_in new ≡ why_of result
all_fault [] old result given new none (is, gave, same) = ap fault_in same ∙ none ∙ sym (ap why_of is)
all_fault (byte ∷ bytes) old result given new none (first, due, mid, takes, on) =
    on_fault bytes first due mid result given new (byte_fault old byte first due mid takes) (λ more. all_fault bytes mid result more new) on

-- one that waits has none
as_fault : (manner : Bool) (old : Talk TerminalState) (bytes : List ℕ) (result : Result Progress RunFault) (given : List ℕ) (new : Talk TerminalState)
    → (manner ≡ true → fault_in old ≡ None) → TakesAs manner old bytes result given new → fault_in new ≡ why_of result
as_fault false old bytes result given new none takes = taken_fault old bytes result given new takes
as_fault true old bytes result given new none takes = all_fault bytes old result given new (none refl) takes

tolerant_waits : (old : Talk TerminalState) → tolerates old ≡ true → fault_in old ≡ None
tolerant_waits (stands (waits state left)) is = refl
tolerant_waits (stands (is_over end)) is = refl
tolerant_waits (stands (has_failed why end)) is = absurd cc
tolerant_waits (stands (is_at_fault fault end)) is = absurd cc
tolerant_waits starved is = absurd cc

-- it failed for the reason that it answers
pub takes_fault : (old : Talk TerminalState) (bytes : List ℕ) (result : Result Progress RunFault) (given : List ℕ) (new : Talk TerminalState)
    → TerminalTakes old bytes result given new → fault_in new ≡ why_of result
takes_fault old bytes result given new takes = as_fault (tolerates old) old bytes result given new (tolerant_waits old) takes
