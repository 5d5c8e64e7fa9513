-- What becomes of bytes of a host is determined.
use Rattle.std.proofs.Common.{◌≡◌, ℕ, Bool, true, false, not, nat_lt, ◌&&◌, List, ◌∷◌, [], ◌++◌, length, Option, Some, None, refl, sym, ap, ◌∙◌, subst}
use Rattle.std.specs.Prelude.{Result}
use Rattle.tn_cores.specs.declared.device.Device.{Device}
use Rattle.tn_session.specs.declared.fault.RunFault.{RunFault}
use Rattle.tn_session.specs.declared.fault.RunFault.TheVariants.{OutOfMemory}
use Rattle.tn_session.specs.declared.progress.Progress.{Progress}
use Rattle.tn_session.specs.declared.terminal_state.TerminalState.{TerminalState}
use Rattle.tn_session.specs.OneLog.{waits, is_over, has_failed, is_at_fault}
use Rattle.tn_session.specs.Talk.{Talk, stands, starved}
use Rattle.tn_session.specs.TerminalTalk.{IsNotOver, OfStanding, TakesAs, TerminalTakes, heard_act, tolerates}
use Rattle.tn_session.proofs.Pieces.{log_on_once, takes_log}
use Rattle.tn_session.proofs.TolerantWork.{terminal_takes_on}
use Rattle.cli_scripts.specs.declared.deed.Deed.{Deed}
use Rattle.cli_scripts.specs.declared.deed.Deed.TheVariants.{Heard}
use Rattle.cli_scripts.specs.DeedLaws.{IsFed}
use Rattle.cli_scripts.specs.Desks.{AsksShown, HearsOnce, NamedHost, Worked, fault_after, fault_in, host_after, over_by}
use Rattle.cli_scripts.specs.RunLaws.{IsSound, StandsSo}
use Rattle.cli_scripts.specs.SentOn.{SentOn}
use Rattle.cli_scripts.proofs.DeedLaws.{At, bytes_once, tolerated_on}
use Rattle.cli_scripts.proofs.Sound.{fed_in, part_once, stood}

-- memory was not refused to it
fed_by : (talk : Talk TerminalState) → (fault_in talk ≡ Some OutOfMemory → ⊥) → IsFed talk
fed_by (stands standing) fed = tt
fed_by starved fed = absurd (fed refl)

as_once : (manner : Bool) (a m n : At) (bytes given more : List ℕ) (one two : Result Progress RunFault) → TakesAs manner (stands a) bytes one given (stands m)
    → TakesAs manner (stands a) bytes two more (stands n) → (given ≡ more) × (m ≡ n)
as_once true a m n bytes given more one two p q =
    bytes_once bytes a m n given more (tolerated_on bytes a m one given p) (tolerated_on bytes a n two more q)
as_once false a m n bytes given more one two p q =
    log_on_once heard_act a m n bytes given more (takes_log heard_act a m bytes one given p) (takes_log heard_act a n bytes two more q)

takes_once : (a : At) (new also : Talk TerminalState) (bytes given more : List ℕ) (one two : Result Progress RunFault)
    → TerminalTakes (stands a) bytes one given new → TerminalTakes (stands a) bytes two more also → (fault_in new ≡ Some OutOfMemory → ⊥)
    → (fault_in also ≡ Some OutOfMemory → ⊥) → (given ≡ more) × (new ≡ also)
takes_once a new also bytes given more one two p q fed fed_too =
    let (m, is) = stood new (fed_by new fed) in
    let (n, so) = stood also (fed_by also fed_too) in
    let same = as_once (tolerates (stands a)) a m n bytes given more one two
    (subst (λ (t : Talk TerminalState). TerminalTakes (stands a) bytes one given t) is p)
    (subst (λ (t : Talk TerminalState). TerminalTakes (stands a) bytes two more t) so q) in
    (same.0, is ∙ ap stands same.1 ∙ sym so)

-- each part of a terminal
pub same_worked : (one two : Worked) → one.device ≡ two.device → one.talk ≡ two.talk → one.host ≡ two.host → one.was_read ≡ two.was_read → one.reads ≡ two.reads
    → one.fault ≡ two.fault → one.deeds ≡ two.deeds → one.heard ≡ two.heard → one.gone ≡ two.gone → one.due ≡ two.due → one.collects ≡ two.collects
    → one.judged ≡ two.judged → one.unjudged ≡ two.unjudged → one.told ≡ two.told → one ≡ two
same_worked one two device talk host read reads fault deeds heard gone due collects judged unjudged told =
    ap (λ (z : Device). record one { device = z }) device
    ∙ ap (λ (z : Talk TerminalState). record one { device = two.device; talk = z }) talk
    ∙ ap (λ (z : Option NamedHost). record one { device = two.device; talk = two.talk; host = z }) host
    ∙ ap (λ (z : Bool). record one { device = two.device; talk = two.talk; host = two.host; was_read = z }) read
    ∙ ap (λ (z : ℕ). record one { device = two.device; talk = two.talk; host = two.host; was_read = two.was_read; reads = z }) reads
    ∙ ap (λ (z : Option RunFault). record one { device = two.device; talk = two.talk; host = two.host; was_read = two.was_read; reads = two.reads; fault = z }) fault
    ∙ ap (λ (z : List Deed). record two { deeds = z; heard = one.heard; gone = one.gone; due = one.due; collects = one.collects; judged = one.judged; unjudged = one.unjudged; told = one.told }) deeds
    ∙ ap (λ (z : List ℕ). record two { heard = z; gone = one.gone; due = one.due; collects = one.collects; judged = one.judged; unjudged = one.unjudged; told = one.told }) heard
    ∙ ap (λ (z : List ℕ). record two { gone = z; due = one.due; collects = one.collects; judged = one.judged; unjudged = one.unjudged; told = one.told }) gone
    ∙ ap (λ (z : List ℕ). record two { due = z; collects = one.collects; judged = one.judged; unjudged = one.unjudged; told = one.told }) due
    ∙ ap (λ (z : Bool). record two { collects = z; judged = one.judged; unjudged = one.unjudged; told = one.told }) collects
    ∙ ap (λ (z : List SentOn). record two { judged = z; unjudged = one.unjudged; told = one.told }) judged
    ∙ ap (λ (z : List SentOn). record two { unjudged = z; told = one.told }) unjudged
    ∙ ap (λ (z : ℕ). record two { told = z }) told

not_over : (host : Option NamedHost) (talk : Talk TerminalState) → StandsSo host talk → IsNotOver talk
not_over host (stands (waits state left)) sound = tt
not_over host (stands (is_over end)) sound = absurd sound
not_over host (stands (has_failed why end)) sound = tt
not_over host (stands (is_at_fault fault end)) sound = tt
not_over host starved sound = absurd sound

-- after a read of it a session that failed has no host
left_so : (talk : Talk TerminalState) (host old : Option NamedHost) (reads : ℕ) → IsNotOver talk → IsFed talk
    → host ≡ host_after (over_by (fault_in talk) reads) old → StandsSo host talk
left_so (stands (waits state left)) host old reads live fed is = tt
left_so (stands (is_over end)) host old reads live fed is = absurd live
left_so (stands (has_failed why end)) host old reads live fed is = is
left_so (stands (is_at_fault fault end)) host old reads live fed is = is
left_so starved host old reads live fed is = absurd fed

pub hears_on : (old new : Worked) (bytes : List ℕ) (shown : Bool) → IsSound old → HearsOnce old bytes shown new → IsSound new
hears_on old new bytes shown sound ((told, (given, adds, takes)), reads, host, fault, read, rest, fed, asked) =
    left_so new.talk new.host old.host new.reads (terminal_takes_on old.talk bytes told given new.talk (not_over old.host old.talk sound) takes).0
    (fed_by new.talk fed) host

asked_once : (why : Option RunFault) (old new also : Worked) (shown seen : Bool) → IsFed new.talk → new.talk ≡ also.talk → AsksShown why old new shown
    → AsksShown why old also seen → (shown ≡ seen) × (new.told ≡ also.told)
asked_once None old new also shown seen fed same (shows, tells) (showing, telling) = (
  part_once (λ (s : TerminalState). nat_lt old.told s.taken) new.talk shown seen fed shows
      (subst (λ (t : Talk TerminalState). OfStanding (λ s. nat_lt old.told s.taken) t seen) (sym same) showing),
  part_once (λ (s : TerminalState). s.taken) new.talk new.told also.told fed tells
      (subst (λ (t : Talk TerminalState). OfStanding (λ s. s.taken) t also.told) (sym same) telling),
)
asked_once (Some why) old new also shown seen fed same (is, kept) (so, stays) = (is ∙ sym so, kept ∙ sym stays)

pub hears_once : (old new also : Worked) (bytes : List ℕ) (shown seen : Bool) → IsSound old → new.deeds ≡ old.deeds ++ Heard (length bytes) ∷ []
    → also.deeds ≡ old.deeds ++ Heard (length bytes) ∷ [] → new.heard ≡ old.heard ++ bytes → also.heard ≡ old.heard ++ bytes
    → HearsOnce old bytes shown new → HearsOnce old bytes seen also → (new ≡ also) × (shown ≡ seen)
hears_once old new also bytes shown seen sound deeds did heard hears
    ((told, (given, adds, takes)), reads, host, fault, read, rest, fed, asked) ((tell, (more, grows, taken)), reading, hosts, faults, was_read, rests, fed_too, asking) =
    let (at, is) = stood old.talk (fed_in old sound) in
    let same = takes_once at new.talk also.talk bytes given more told tell
    (subst (λ (t : Talk TerminalState). TerminalTakes t bytes told given new.talk) is takes)
    (subst (λ (t : Talk TerminalState). TerminalTakes t bytes tell more also.talk) is taken) fed fed_too in
    let sight = asked_once (fault_in new.talk) old new also shown seen (fed_by new.talk fed) same.1 asked
    (subst (λ (t : Talk TerminalState). AsksShown (fault_in t) old also seen) (sym same.1) asking) in (
      same_worked new also (rest.0 ∙ sym rests.0) same.1
          (host ∙ ap (λ (t : Talk TerminalState). host_after (over_by (fault_in t) new.reads) old.host) same.1
          ∙ ap (λ (n : ℕ). host_after (over_by (fault_in also.talk) n) old.host) (reads ∙ sym reading) ∙ sym hosts)
          (read ∙ ap (λ (b : Bool). old.was_read && not b) sight.0 ∙ sym was_read) (reads ∙ sym reading)
          (fault ∙ ap (λ (t : Talk TerminalState). fault_after (over_by (fault_in t) new.reads) old.fault) same.1
          ∙ ap (λ (n : ℕ). fault_after (over_by (fault_in also.talk) n) old.fault) (reads ∙ sym reading) ∙ sym faults) (deeds ∙ sym did) (heard ∙ sym hears)
          (rest.1 ∙ sym rests.1) (adds ∙ ap (λ z. old.due ++ z) same.0 ∙ sym grows) (rest.2 ∙ sym rests.2) (rest.3 ∙ sym rests.3) (rest.4 ∙ sym rests.4)
          sight.1,
      sight.0,
    )
