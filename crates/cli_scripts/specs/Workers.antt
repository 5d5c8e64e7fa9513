-- How a line goes on with what is under way, and what actions leave as it is.
use Rattle.std.specs.Prelude.{◌≡◌, ℕ, Bool, true, false, is_some, List, [], ◌∷◌, ◌++◌, codes, length, None, Result, Ok}
use Rattle.script_checks.specs.ReadSeen.{read_seen}
use Rattle.script_keys.specs.Actions.{Action, other}
use Rattle.script_keys.specs.Faults.{Fault}
use Rattle.script_screens.specs.declared.code_page.CodePage.{CodePage}
use Rattle.script_screens.specs.declared.lines.Outcome.{Outcome}
use Rattle.script_screens.specs.declared.lines.Outcome.TheVariants as outcomes
use Rattle.script_screens.specs.Lines.{failed}
use Rattle.tn_session.specs.declared.terminal_state.TerminalState.{TerminalState}
use Rattle.tn_session.specs.Talk.{Talk}
use Rattle.cli_scripts.specs.Acts.{PressesKeys, PressesOnly, WorksKeys}
use Rattle.cli_scripts.specs.Answers.{printed_text}
use Rattle.cli_scripts.specs.declared.came.Came.{Came}
use Rattle.cli_scripts.specs.declared.came.Came.TheVariants as came
use Rattle.cli_scripts.specs.declared.came.Need.TheVariants.{Bytes, Connection, Layout, Page}
use Rattle.cli_scripts.specs.declared.deed.Deed.TheVariants as deeds
use Rattle.cli_scripts.specs.declared.doing.Doing.{Doing}
use Rattle.cli_scripts.specs.declared.doing.Doing.TheVariants.{Arriving, Calling, Opening, Sent, Pressing, TypingCode, Typing, Waiting, Writing, Checking}
use Rattle.cli_scripts.specs.declared.doing.Step.{Step}
use Rattle.cli_scripts.specs.declared.doing.Step.TheVariants.{Ended, Waits}
use Rattle.cli_scripts.specs.declared.kind.Kind.{Kind}
use Rattle.cli_scripts.specs.declared.kind.Kind.TheVariants as kinds
use Rattle.cli_scripts.specs.declared.worker.Worker.{Worker}
use Rattle.cli_scripts.specs.Desks.{Worked, HearsOnce, is_waiting, opened}
use Rattle.cli_scripts.specs.Keying.{OnWaiting, SaysCode, SaysKeys, TypesCode}
use Rattle.cli_scripts.specs.Kinds.{kind_of}
use Rattle.cli_scripts.specs.Says.{Checks, EndsSaying, IsOpening, unconnected_said}
use Rattle.cli_scripts.specs.Settings.{first_settings}
use Rattle.cli_scripts.specs.TypedTexts.{TypesText}
use Rattle.cli_scripts.specs.Waits.{HearsTold, IsReadOn, Tells, closed, late}

-- one that did no action yet
abbrev pub new_worker : Worked → CodePage → Worker
new_worker desk code_page =
    record { desk = desk; code_page = code_page; settings = first_settings; kept = None; saying = [] }

-- ---- what was set, and what was kept

abbrev pub KeepsSet : Worker → Worker → Type 0
KeepsSet old new = (new.settings ≡ old.settings) × (new.kept ≡ old.kept)

-- Set and Toggle alone change what is set, and Snap alone what was kept
abbrev pub SetsAs : Kind → Worker → Worker → Type 0
SetsAs (kinds.Sets verb) old new = new.kept ≡ old.kept
SetsAs kinds.Snaps old new = new.settings ≡ old.settings
SetsAs kind old new = KeepsSet old new

abbrev pub ActsSet : Result Action Fault → Worker → Worker → Type 0
ActsSet (Ok (other name arguments)) old new = SetsAs (kind_of name) old new
ActsSet action old new = KeepsSet old new

-- ---- what is under way

-- nothing was done, and nothing said
abbrev pub Rests : Worker → Worker → Type 0
Rests old new = (new.desk ≡ old.desk) × (new.saying ≡ old.saying)

-- it is over
abbrev pub IsOver : Worker → Step → Worker → Type 0
IsOver old step new = (step ≡ Ended outcomes.Done) × Rests old new

-- a text goes on being typed
abbrev pub TypesOn : Doing → Worker → Step → Worker → Type 0
TypesOn (Typing typing) old step new =
    TypesText old.code_page old.settings.blank_fill typing step old.desk new.desk old.saying new.saying
    × PressesOnly old.desk new.desk
TypesOn doing old step new = ⊥

-- As the line to the host ends what opens fails, a text is over or canceled, a wait is over or fails, and anything else is over.
abbrev pub ClosedOn : Doing → Worker → Step → Worker → Type 0
ClosedOn Opening old step new =
    EndsSaying (failed (printed_text (codes "Host disconnected"))) step old.saying new.saying × (new.desk ≡ old.desk)
ClosedOn (Calling host) old step new =
    EndsSaying (failed (printed_text (codes "Host disconnected"))) step old.saying new.saying × (new.desk ≡ old.desk)
ClosedOn (Typing typing) old step new = TypesOn (Typing typing) old step new
ClosedOn (Waiting wait) old step new = Tells wait (closed wait.what) step old.saying new.saying × (new.desk ≡ old.desk)
ClosedOn doing old step new = IsOver old step new

-- what was sent waits for the keyboard
abbrev pub WaitsStill : Bool → Step → Type 0
WaitsStill true step = step ≡ Waits Sent Bytes
WaitsStill false step = step ≡ Ended outcomes.Done

abbrev pub AfterSent : Bool → Talk TerminalState → Step → Type 0
AfterSent true talk step = OnWaiting talk (λ state. WaitsStill (is_waiting state.terminal.lock) step)
AfterSent false talk step = step ≡ Ended outcomes.Done

-- a session that opens is open once a record was shown
abbrev pub OpensBy : Bool → Step → Type 0
OpensBy true step = step ≡ Ended outcomes.Done
OpensBy false step = step ≡ Waits Opening Bytes

-- After bytes of a host that stays connected keys are pressed and texts typed as at first. What needs no host waits on.
abbrev pub HeardOn : Doing → Bool → Worker → Step → Worker → Type 0
HeardOn Opening shown old step new = OpensBy shown step × Rests old new
HeardOn Sent shown old step new = AfterSent true old.desk.talk step × Rests old new
HeardOn (Pressing it) shown old step new =
    PressesKeys it old.desk new.desk × SaysKeys it old.desk.host old.desk.talk step old.saying new.saying
    × WorksKeys old.desk.host it old.desk new.desk
HeardOn (TypingCode code) shown old step new =
    TypesCode old.settings.blank_fill code old.desk new.desk
    × SaysCode old.settings.blank_fill code old.desk.host old.desk.talk step old.saying new.saying
    × PressesOnly old.desk new.desk
HeardOn (Typing typing) shown old step new = TypesOn (Typing typing) old step new
HeardOn (Calling host) shown old step new = (step ≡ Waits (Calling host) Connection) × Rests old new
HeardOn (Writing path) shown old step new = (step ≡ Waits (Writing path) Page) × Rests old new
HeardOn (Checking path) shown old step new = (step ≡ Waits (Checking path) Layout) × Rests old new
HeardOn doing shown old step new = IsOver old step new

abbrev pub HeardAt : Bool → Doing → Bool → Worker → Step → Worker → Type 0
HeardAt true doing shown old step new = HeardOn doing shown old step new
HeardAt false doing shown old step new = ClosedOn doing old step new

-- what has arrived is read on, up to the line's end
abbrev pub ArrivesOn : Bool → Step → Type 0
ArrivesOn true step = IsReadOn step
ArrivesOn false step = step ≡ Ended outcomes.Done

-- after bytes of the host, of which it is known whether a record was shown
abbrev pub HearsOn : Doing → Bool → Worker → Step → Worker → Type 0
HearsOn Arriving shown old step new = ArrivesOn (is_some old.desk.host) step × Rests old new
HearsOn (Waiting wait) shown old step new = HearsTold old.desk wait step old.saying new.saying × (new.desk ≡ old.desk)
HearsOn doing shown old step new = HeardAt (is_some old.desk.host) doing shown old step new

-- Something else came. What wasn't asked for ends what is under way.
abbrev pub ToldOn : Doing → Came → Worker → Step → Worker → Type 0
ToldOn (Calling host) came.Connected old step new =
    IsOpening step × (new.desk ≡ opened old.desk host) × (new.saying ≡ old.saying)
ToldOn (Calling host) (came.Unconnected why) old step new =
    EndsSaying (unconnected_said host why.now) step old.saying new.saying × (new.desk ≡ old.desk)
ToldOn (Waiting wait) came.Late old step new = Tells wait (late wait.what) step old.saying new.saying × (new.desk ≡ old.desk)
ToldOn (Writing path) (came.Unwritten why) old step new =
    EndsSaying (failed (printed_text (codes "PrintText(): " ++ (path.items ++ (codes ": " ++ why.now))))) step old.saying new.saying
    × (new.desk ≡ old.desk)
ToldOn (Checking path) (came.Layout text) old step new =
    (outcome : Outcome) × (step ≡ Ended outcome)
    × Checks old.desk path.items (read_seen text) old.saying new.saying outcome × (new.desk ≡ old.desk)
ToldOn doing it old step new = IsOver old step new

-- bytes of the host were heard, and nothing else was done
abbrev pub HearsBytes : List ℕ → Worker → Bool → Worker → Type 0
HearsBytes bytes old shown new =
    (new ≡ record old { desk = new.desk }) × (new.desk.deeds ≡ old.desk.deeds ++ deeds.Heard (length bytes) ∷ [])
    × (new.desk.heard ≡ old.desk.heard ++ bytes) × HearsOnce old.desk bytes shown new.desk

-- the line to the host ended
abbrev pub hung_up : Worker → Worker
hung_up old = record old { desk = record old.desk { host = None } }

-- what is under way goes on by what came
abbrev pub GoesOn : Doing → Came → Worker → Step → Worker → Type 0
GoesOn doing (came.Bytes bytes) old step new =
    (mid : Worker) × (shown : Bool) × HearsBytes bytes.now old shown mid × HearsOn doing shown mid step new
GoesOn doing came.Closed old step new = ClosedOn doing (hung_up old) step new
GoesOn doing it old step new = ToldOn doing it old step new
