-- What came of a script and of hosts, in turn.
use Rattle.std.proofs.Common.{◌≡◌, ◌≢◌, ◌++◌, ◌∷◌, ◌+◌, ◌≤◌, ◌<◌, ℕ, Bool, true, false, nat_lt, cond, List, [], map, length, length-append, take, None, Some, Ok, Err, sym, ap, ◌∙◌, subst, refl, arith, inl, inr, append_assoc}
use Rattle.std.specs.Prelude.{Option, Result, All, IfOk, IfSome, min}
use Rattle.std.proofs.Math.Nat.{min-eq_left}
use Rattle.std.specs.declared.alloc.AllocError.{AllocError}
use Rattle.std.specs.Io.KnownBytes.{prepend_known}
use Rattle.bstr.specs.Text.{without_terminator}
use Rattle.cli_commands.specs.declared.fault.CommandError.{CommandError}
use Rattle.cli_commands.specs.declared.fault.CommandError.TheVariants.{Fault, ReadFailed, OutOfMemory}
use Rattle.cli_commands.specs.NextLine.{ReadsLine, ReadsSome}
use Rattle.cli_scripts.specs.Judged.{ended_by}
use Rattle.cli_scripts.specs.declared.run.Ended.TheVariants.{Over}
use Rattle.cli_scripts.specs.declared.script.Asked.TheVariants as asked
use Rattle.cli_scripts.specs.declared.world.Patience.{Patience}
use Rattle.cli_scripts.specs.declared.world.Patience.TheVariants as patiences
use Rattle.cli_scripts.specs.Performs.{TakesBy}
use Rattle.std.proofs.lemmas.List.{append-nil}
use Rattle.std.proofs.lemmas.List.Elements.{All-head, All-tail}
use Rattle.std.proofs.lemmas.Bool.Decides.{nat_tests}
use Rattle.cli_commands.specs.Lines.{lines_in}
use Rattle.cli_scripts.specs.declared.came.Came.{Came}
use Rattle.cli_scripts.specs.declared.came.Need.{Need}
use Rattle.cli_scripts.specs.declared.came.Need.TheVariants as needs
use Rattle.cli_scripts.specs.declared.came.Wants.{Wants}
use Rattle.cli_scripts.specs.declared.came.Wants.TheVariants as wanted
use Rattle.cli_scripts.specs.Machines.{AnswersSo, HearsNext, Scripted, goes_on}
use Rattle.cli_scripts.specs.Runs.{AreRead, AsksFor, AreScript, Event, a_line, a_long_line, some_bytes, nothing_yet, not_in_time, the_end, event_of, GivesLine, GivesNeed, Goes, IsEnd, IsEndAt, HasEnded, IsGiven, IsLine, IsShort, Meets, PassesLine, Ran, Takes, Turned, Turns, all_bytes, bytes_of, handed_desk, handed_out, kept_line, line_of, lines_of, need_of}

turns_more : (events : List Event) (wants : Wants) (old : Scripted) (last : Wants) (mid : Scripted) (event : Event) (next : Wants) (taken : Scripted)
    → Turns events wants old last mid → IsGiven last event → Takes event mid next taken → Turns (events ++ event ∷ []) wants old next (handed_out taken)
turns_more [] wants old last mid event next taken (is, same) given takes =
    (next, taken, subst (λ (w : Wants). IsGiven w event) is given, subst (λ (m : Scripted). Takes event m next taken) same takes, (refl, refl))
turns_more (one ∷ events) wants old last mid event next taken (after, between, first, took, others) given takes =
    (after, between, first, took, turns_more events after (handed_out between) last mid event next taken others given takes)

read_more : (lines more : List (Option (List ℕ))) (known mid left : Option (List ℕ)) → AreRead lines known mid → AreRead more mid left
    → AreRead (lines ++ more) known left
read_more [] more known mid left is reads = subst (λ (z : Option (List ℕ)). AreRead more z left) is reads
read_more (line ∷ lines) more known mid left (between, one, others) reads = (between, one, read_more lines more between mid left others reads)

lines_more : (events : List Event) (event : Event) → lines_of (events ++ event ∷ []) ≡ lines_of events ++ line_of event
lines_more [] event = append-nil (line_of event)
lines_more (one ∷ events) event =
    ap (λ z. line_of one ++ z) (lines_more events event) ∙ sym (append_assoc (line_of one) (lines_of events) (line_of event))

bytes_more : (events : List Event) (event : Event) → all_bytes (events ++ event ∷ []) ≡ all_bytes events ++ bytes_of event
bytes_more [] event = append-nil (bytes_of event)
bytes_more (one ∷ events) event =
    ap (λ z. bytes_of one ++ z) (bytes_more events event) ∙ sym (append_assoc (bytes_of one) (all_bytes events) (bytes_of event))

-- nothing came yet
pub goes_none : (old : Scripted) (known : Option (List ℕ)) (received : List ℕ)
    → (so : Goes old wanted.Line old known known received received) × (length so.events ≡ 0)
goes_none old known received = (record { events = []; turns = (refl, refl); reads = refl; came = sym (append-nil received) }, refl)

goes_more : (old mid taken new : Scripted) (wants next : Wants) (known now left : Option (List ℕ))
    (received mid_received new_received end_received : List ℕ) → Goes old wants mid known now received mid_received
    → Turned wants mid next taken now left mid_received new_received → new ≡ handed_out taken → end_received ≡ new_received
    → Goes old next new known left received end_received
goes_more old mid taken new wants next known now left received mid_received new_received end_received so turn is silent =
    record {
      events = so.events ++ turn.event ∷ [];
      turns = subst (λ (m : Scripted). Turns (so.events ++ turn.event ∷ []) wanted.Line old next m) (sym is)
          (turns_more so.events wanted.Line old wants mid turn.event next taken so.turns turn.given turn.takes);
      reads = subst (λ (z : List (Option (List ℕ))). AreRead z known left) (sym (lines_more so.events turn.event))
          (read_more (lines_of so.events) (line_of turn.event) known now left so.reads turn.reads);
      came = silent ∙ turn.came ∙ ap (λ z. z ++ bytes_of turn.event) so.came ∙ append_assoc received (all_bytes so.events) (bytes_of turn.event)
          ∙ ap (λ z. received ++ z) (sym (bytes_more so.events turn.event));
    }

-- and so many turns were made
pub goes_counted : (old mid taken new : Scripted) (wants next : Wants) (known now left : Option (List ℕ))
    (received mid_received new_received end_received : List ℕ) (count : ℕ)
    → (so : Goes old wants mid known now received mid_received) × (length so.events ≡ count)
    → Turned wants mid next taken now left mid_received new_received → new ≡ handed_out taken → end_received ≡ new_received
    → (so : Goes old next new known left received end_received) × (length so.events ≡ count + 1)
unfolding goes_more
goes_counted old mid taken new wants next known now left received mid_received new_received end_received count (so, is) turn handed silent = (
  goes_more old mid taken new wants next known now left received mid_received new_received end_received so turn handed silent,
  length-append so.events (turn.event ∷ []) ∙ ap (λ (n : ℕ). n + 1) is,
)

-- ---- the script's end

of_script : (lines : List (Option (List ℕ))) (bytes : List ℕ) (left : Option (List ℕ)) → AreRead lines (Some bytes) left → All IsShort (lines_in bytes)
    → (rest : List ℕ) × (left ≡ Some rest) × (map kept_line (lines_in bytes) ≡ lines ++ map kept_line (lines_in rest))
of_script [] bytes left is short = (bytes, is, refl)
of_script (line ∷ lines) bytes left (mid, (first, rest, cut, so), others) short =
    let all : All IsShort (first ∷ lines_in rest) = subst (All IsShort) cut short in
    let (kept, now) = so (All-head IsShort first (lines_in rest) all) in
    let (after, is, same) = of_script lines rest left (subst (λ (z : Option (List ℕ)). AreRead lines z left) now others)
    (All-tail IsShort first (lines_in rest) all) in (
      after,
      is,
      ap (map kept_line) cut ∙ ap (λ (z : Option (List ℕ)). z ∷ map kept_line (lines_in rest)) (sym kept) ∙ ap (λ z. line ∷ z) same,
    )

ended_at : (last : Wants) (left : Option (List ℕ)) (rest : List ℕ) → IsEndAt last left → left ≡ Some rest → last ≡ wanted.Line → lines_in rest ≡ []
ended_at last left rest ends is so =
    subst HasEnded is (subst (λ (w : Wants). IsEndAt w left) so ends)

are_script : (known : Option (List ℕ)) (lines : List (Option (List ℕ))) (last : Wants) (left : Option (List ℕ)) → AreRead lines known left
    → IsEndAt last left → AreScript known lines last
are_script None lines last left reads ends = tt
are_script (Some bytes) lines last left reads ends =
    λ short. let (rest, is, same) = of_script lines bytes left reads short in (lines_in rest, same, ended_at last left rest ends is)

is_end : (last : Wants) (left : Option (List ℕ)) → IsEndAt last left → IsEnd last
is_end wanted.Line left ends = tt
is_end (wanted.Need need) left ends = absurd ends
is_end wanted.Nothing left ends = tt

pub ran_so : (old mid new : Scripted) (last : Wants) (known left : Option (List ℕ)) (received mid_received new_received : List ℕ)
    → Goes old last mid known left received mid_received → IsEndAt last left → new ≡ handed_desk mid → new_received ≡ mid_received
    → Ran old new known received new_received
ran_so old mid new last known left received mid_received new_received so ends is silent =
    record {
      events = so.events;
      last = last;
      mid = mid;
      turns = so.turns;
      ends = is_end last left ends;
      handed = is;
      script = are_script known (lines_of so.events) last left so.reads ends;
      came = silent ∙ so.came;
    }

-- nothing is read ahead at first
pub none_ahead : (ahead : List ℕ) (known : Option (List ℕ)) → ahead ≡ [] → prepend_known ahead known ≡ known
none_ahead ahead None none = refl
none_ahead ahead (Some bytes) none = ap (λ z. Some (z ++ bytes)) none

-- ---- one of them

line_alone : (event : Event) → IsLine event → bytes_of event ≡ []
line_alone (some_bytes bytes) is = absurd is
line_alone event is = refl

pub turned_line : (old : Scripted) (next : Wants) (new : Scripted) (known left : Option (List ℕ)) (received new_received : List ℕ)
    → GivesLine old next new known left → new_received ≡ received → Turned wanted.Line old next new known left received new_received
turned_line old next new known left received new_received (event, is, takes, reads) same =
    record {
      event = event;
      given = is;
      takes = takes;
      reads = reads;
      came = same ∙ sym (append-nil received) ∙ ap (λ z. received ++ z) (sym (line_alone event is));
    }

pub need_alone : (need : Need) (event : Event) → Meets need event → line_of event ≡ []
need_alone needs.Arrived (a_line line) meets = absurd meets
need_alone needs.Arrived a_long_line meets = absurd meets
need_alone needs.Bytes (a_line line) meets = absurd meets
need_alone needs.Bytes a_long_line meets = absurd meets
need_alone (needs.BytesWithin limit begins) (a_line line) meets = absurd meets
need_alone (needs.BytesWithin limit begins) a_long_line meets = absurd meets
need_alone (needs.Pause time) (a_line line) meets = absurd meets
need_alone (needs.Pause time) a_long_line meets = absurd meets
need_alone needs.Connection (a_line line) meets = absurd meets
need_alone needs.Connection a_long_line meets = absurd meets
need_alone needs.Page (a_line line) meets = absurd meets
need_alone needs.Page a_long_line meets = absurd meets
need_alone needs.Layout (a_line line) meets = absurd meets
need_alone needs.Layout a_long_line meets = absurd meets
need_alone need event meets = refl

pub turned_need : (need : Need) (old : Scripted) (next : Wants) (new : Scripted) (known left : Option (List ℕ)) (received new_received : List ℕ)
    → GivesNeed need old next new received new_received → left ≡ known
    → Turned (wanted.Need need) old next new known left received new_received
turned_need need old next new known left received new_received (event, meets, takes, came) same =
    record {
      event = event;
      given = meets;
      takes = takes;
      reads = subst (λ (z : List (Option (List ℕ))). AreRead z known left) (sym (need_alone need event meets)) same;
      came = came;
    }

-- what came for a need was taken
pub gave : (r : Result Wants AllocError) (need : Need) (it : Came) (old new : Scripted) (received new_received : List ℕ) → Meets need (event_of it)
    → new_received ≡ received ++ bytes_of (event_of it) → old.is_busy ≡ true → IfOk r (λ wants. TakesBy old.job it old wants new)
    → HearsNext old.is_busy it old.desk new.desk → new.code_page ≡ old.code_page → new.telling.gone ≡ old.telling.gone
    → IfOk r (λ wants. AnswersSo (goes_on old.is_busy it) old wants new)
    → IfOk r (λ wants. GivesNeed need old wants new received new_received)
gave (Err why) need it old new received new_received meets came busy takes hears page gone answers = tt
gave (Ok wants) need it old new received new_received meets came busy takes hears page gone answers = (
  event_of it,
  meets,
  record {
    it = it;
    is = refl;
    by = takes;
    heard = hears;
    page = page;
    gone = gone;
    answered = subst (λ (b : Bool). AnswersSo (goes_on b it) old wants new) busy answers;
  },
  came,
)

-- and a line
pub gave_line : (it : Came) (old : Scripted) (wants : Wants) (new : Scripted) (known left : Option (List ℕ)) → IsLine (event_of it)
    → old.is_busy ≡ false → TakesBy old.job it old wants new → HearsNext old.is_busy it old.desk new.desk → new.code_page ≡ old.code_page
    → new.telling.gone ≡ old.telling.gone → AnswersSo true old wants new → AreRead (line_of (event_of it)) known left
    → GivesLine old wants new known left
gave_line it old wants new known left is idle takes hears page gone answers reads =
    (event_of it, is, record { it = it; is = refl; by = takes; heard = hears; page = page; gone = gone; answered = answers }, reads)

-- what a read that waits so may give
pub bytes_meet : (patience : Patience) (bytes : List ℕ) → Meets (need_of patience) (some_bytes bytes)
bytes_meet patiences.None bytes = tt
bytes_meet patiences.Endless bytes = tt
bytes_meet (patiences.Within limit begins) bytes = tt

pub end_meets : (patience : Patience) → Meets (need_of patience) the_end
end_meets patiences.None = tt
end_meets patiences.Endless = tt
end_meets (patiences.Within limit begins) = tt

pub nothing_meets : (patience : Patience) → patience ≡ patiences.None → Meets (need_of patience) nothing_yet
nothing_meets patiences.None is = tt
nothing_meets patiences.Endless is = absurd cc
nothing_meets (patiences.Within limit begins) is = absurd cc

pub late_meets : (patience : Patience) → patience ≢ patiences.None → Meets (need_of patience) not_in_time
late_meets patiences.None waits = absurd (waits refl)
late_meets patiences.Endless waits = tt
late_meets (patiences.Within limit begins) waits = tt

pub never_both : (b : Bool) → b ≡ true → b ≡ false → ⊥
never_both b is isnt = subst (λ (t : Bool). cond t (Unit {0}) ⊥) (sym is ∙ isnt) tt

-- so many bytes at the front of a buffer, which it holds
pub front_read : (count most found : ℕ) (piece before after : List ℕ) → found ≡ min count most → length piece ≡ most
    → (count ≤ length piece) × (after ≡ before ++ take count piece) → after ≡ before ++ take found piece
front_read count most found piece before after is full (fits, grows) =
    grows ∙ ap (λ (n : ℕ). before ++ take n piece) (sym (is ∙ min-eq_left (subst (λ (n : ℕ). count ≤ n) full fits)))

-- one need is another
pub gave_for : (r : Result Wants AllocError) (need other : Need) (old new : Scripted) (received new_received : List ℕ) → need ≡ other
    → IfOk r (λ wants. GivesNeed other old wants new received new_received) → IfOk r (λ wants. GivesNeed need old wants new received new_received)
gave_for r need other old new received new_received is gives =
    subst (λ (n : Need). IfOk r (λ wants. GivesNeed n old wants new received new_received)) (sym is) gives

-- ---- the script is read

pub read_line : (known left : Option (List ℕ)) (line : List ℕ) → IfSome known (λ bytes. AsksFor bytes asked.Line line left)
    → AreRead (Some line ∷ []) known left
read_line None left line asks = (left, tt, refl)
read_line (Some bytes) left line asks = (left, asks, refl)

pub read_long : (known left : Option (List ℕ)) (line : List ℕ) → IfSome known (λ bytes. AsksFor bytes asked.LongLine line left)
    → AreRead (None ∷ []) known left
read_long None left line asks = (left, tt, refl)
read_long (Some bytes) left line asks = (left, asks, refl)

pub read_end : (known left : Option (List ℕ)) (line : List ℕ) → IfSome known (λ bytes. AsksFor bytes asked.End line left) → HasEnded known
read_end None left line asks = tt
read_end (Some bytes) left line asks = asks

-- an error of a read is no end
pub never_over : (error : CommandError) → ended_by error ≡ Over → ⊥
never_over OutOfMemory is = absurd cc
never_over ReadFailed is = absurd cc
never_over (Fault fault) is = absurd cc

kept_by : (t : Bool) (line : List ℕ) → nat_lt 65536 (length line) ≡ t → kept_line line ≡ cond t None (Some line)
kept_by t line is = ap (λ (b : Bool). cond b None (Some line)) is

is_short : (n most : ℕ) → n ≤ most → nat_lt most n ≡ false
is_short n most few = grind (arith, nat_tests)

is_long : (n most : ℕ) → most < n → nat_lt most n ≡ true
is_long n most long = grind (arith, nat_tests)

kept_short : (line : List ℕ) → length line ≤ 65536 → kept_line line ≡ Some line
kept_short line few = kept_by false line (is_short (length line) 65536 few)

kept_long : (line : List ℕ) → 65536 < length line → kept_line line ≡ None
kept_long line long = kept_by true line (is_long (length line) 65536 long)

pub asks_end : (known left after : Option (List ℕ)) (line rest : List ℕ) → IfSome known (λ bytes. ReadsLine bytes false line left)
    → IfSome known (λ bytes. AsksFor bytes asked.End rest after)
asks_end None left after line rest reads = tt
asks_end (Some bytes) left after line rest (none, is) = none

pub asks_line : (known left : Option (List ℕ)) (line : List ℕ) → length (without_terminator line) ≤ 65536
    → IfSome known (λ bytes. ReadsLine bytes true line left) → IfSome known (λ bytes. AsksFor bytes asked.Line (without_terminator line) left)
asks_line None left line few reads = tt
asks_line (Some bytes) left line few (first, rest, cut, inl (left_is, is), some, fits, exact) =
    (first, rest, cut, λ short. (ap Some is ∙ sym (kept_short first (subst (λ z. length z ≤ 65536) is few)), left_is))
asks_line (Some bytes) left line few (first, rest, cut, inr (long, also), some, fits, exact) = absurd (omega (arith, few, also))

-- a line that is too long, of which no more was read
pub asks_long : (known left : Option (List ℕ)) (line other : List ℕ) → 65536 < length (without_terminator line)
    → length (without_terminator line) ≤ 16777216 → IfSome known (λ bytes. ReadsLine bytes true line left)
    → IfSome known (λ bytes. AsksFor bytes asked.LongLine other left)
asks_long None left line other long few reads = tt
asks_long (Some bytes) left line other long few (first, rest, cut, inl (left_is, is), some, fits, exact) =
    (first, rest, cut, λ short. (sym (kept_long first (subst (λ z. 65536 < length z) is long)), left_is))
asks_long (Some bytes) left line other long few (first, rest, cut, inr (more_long, also), some, fits, exact) = absurd (omega (arith, few, also))

-- and one of which the rest was read
pub asks_longer : (known now left : Option (List ℕ)) (line other : List ℕ) → IfSome known (λ bytes. ReadsSome bytes true line now)
    → IfSome now (λ bytes. PassesLine line bytes left) → IfSome known (λ bytes. AsksFor bytes asked.LongLine other left)
asks_longer None now left line other reads passes = tt
asks_longer (Some bytes) None left line other (some, (rest, is, cut, apart)) passes = absurd cc
asks_longer (Some bytes) (Some more) left line other (some, (rest, is, cut, apart)) (first, after, lines, long, at) =
    (first, after, ap lines_in (cut ∙ ap (λ z. line ++ z) (sym (same_some more rest is))) ∙ lines, λ short. (sym (kept_long first long), at short))
  where
    same_some : (a b : List ℕ) → Some a ≡ Some b → a ≡ b
    same_some a b same = cc
