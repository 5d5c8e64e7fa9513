-- What a script leads to hangs on its lines, and on what hosts, files and clocks gave, alone.
use Rattle.std.specs.Prelude.{◌≡◌, ◌+◌, ℕ, true, is_some, map, List, ◌++◌, length, Option, None}
use Rattle.ds_keys.specs.declared.key.Key.{Key}
use Rattle.ds_keys.specs.KeyRuns.{after, IsQuiet}
use Rattle.ds_screen.specs.Picture.{Picture}
use Rattle.scr_check.specs.Promise.{KeepsPromise, Promise}
use Rattle.scr_layout.specs.Layout.{Declaration}
use Rattle.tn_session.specs.declared.terminal_state.TerminalState.{TerminalState}
use Rattle.tn_session.specs.OneLog.{waits, has_failed, is_at_fault}
use Rattle.tn_session.specs.Talk.{Talk, stands}
use Rattle.tn_session.specs.TerminalTalk.{agreed_in}
use Rattle.cli_scripts.specs.Acts.{PressesOnly}
use Rattle.cli_scripts.specs.declared.came.Wants.{Wants}
use Rattle.cli_scripts.specs.declared.deed.Deed.TheVariants.{Pressed}
use Rattle.cli_scripts.specs.Desks.{NamedHost, Shows, Worked}
use Rattle.cli_scripts.specs.Machines.{Scripted}
use Rattle.cli_scripts.specs.Runs.{Event, Ran, Turns, lines_of}

-- A session that waits for more; or one that failed, to which no host is connected. Memory was not refused to it.
abbrev pub StandsSo : Option NamedHost → Talk TerminalState → Type 0
StandsSo host (stands (waits state left)) = Unit {0}
StandsSo host (stands (has_failed why state)) = host ≡ None
StandsSo host (stands (is_at_fault fault state)) = host ≡ None
StandsSo host talk = ⊥

-- The session of a terminal stands so, as it does before the first line; and what comes leaves it so.
abbrev pub IsSound : Worked → Type 0
IsSound w = StandsSo w.host w.talk

-- Where the same came in turn, two runs from one terminal want the same next, told the same lines, gave hosts the same bytes, and leave their
-- terminals alike, also after sessions that failed.
abbrev pub TurnsAgree : Type 0
TurnsAgree =
    (events : List Event) (wants last another : Wants) (first one two : Scripted) → Turns events wants first last one
    → Turns events wants first another two → IsSound first.desk
    → (last ≡ another) × (one.telling.gone ≡ two.telling.gone) × (one.desk ≡ two.desk) × IsSound one.desk

-- The same of whole scripts.
abbrev pub RunsAgree : Type 0
RunsAgree =
    (first one two : Scripted) (known other : Option (List ℕ)) (received received_one received_other received_two : List ℕ)
    (run : Ran first one known received received_one) (again : Ran first two other received_other received_two) → run.events ≡ again.events
    → IsSound first.desk → (one.telling.gone ≡ two.telling.gone) × (one.desk ≡ two.desk) × IsSound one.desk

-- Each line of a script that was taken, the last one too, was answered once.
abbrev pub AnswersEach : Type 0
AnswersEach =
    (first new : Scripted) (known : Option (List ℕ)) (received received_new : List ℕ) (run : Ran first new known received received_new)
    → length new.telling.outcomes ≡ length first.telling.outcomes + length (lines_of run.events)

-- ---- what a yes promises

-- The keys that a script presses, String's and Key's too, are a run of keys of the profile: where records pass, they lead from the screen that is
-- shown to the one that they leave, and nothing else of the terminal changes. So of a screen of which `check` said yes they keep what its clause
-- promises, as long as none of them sends.
abbrev pub YesHolds : Type 0
YesHolds =
    (layout : Declaration) (opened : Picture) (old new : Worked) → KeepsPromise layout opened → PressesOnly old new
    → is_some (agreed_in old.talk) ≡ true → Shows old opened
    → (typed : List Key) × (new.deeds ≡ old.deeds ++ map Pressed typed) × Shows new (after opened typed) × (new.host ≡ old.host)
    × (IsQuiet opened typed → Promise layout opened typed)
