-- The terminal that a script works, and what is known of its line.
use Rattle.std.specs.Prelude.{◌≡◌, ℕ, ◌+◌, nat_le, nat_lt, Bool, true, false, not, ◌&&◌, List, [], ◌∷◌, ◌++◌, codes, Option, Some, None, Result, Ok, Err, if◌then◌else◌}
use Rattle.ds_screen.specs.Picture.{Picture}
use Rattle.ds_screen.specs.declared.lock.Lock.{Lock}
use Rattle.ds_screen.specs.declared.lock.Lock.TheVariants.{Free, Waiting, Error}
use Rattle.script_screens.specs.declared.connection.Protocol.{Protocol}
use Rattle.script_screens.specs.declared.connection.Protocol.TheVariants.{Tn3270, Tn3270e}
use Rattle.script_screens.specs.declared.lines.Outcome.{Outcome}
use Rattle.script_screens.specs.declared.query.Query.{Query}
use Rattle.script_screens.specs.Lines.{Says}
use Rattle.script_screens.specs.Query.{Named, said_of_query}
use Rattle.script_screens.specs.Status.{Link}
use Rattle.tn_cores.specs.declared.device.Device.{Device}
use Rattle.tn_cores.specs.declared.device.ScreenModel.{ScreenModel}
use Rattle.tn_cores.specs.declared.device.ScreenModel.TheVariants.{Two, Three, Four, Five}
use Rattle.tn_cores.specs.declared.session.Agreed.{Agreed}
use Rattle.tn_cores.specs.declared.session.SessionFault.TheVariants.{TooManyReads}
use Rattle.tn_cores.specs.Devices.{name_of}
use Rattle.tn_session.specs.declared.fault.RunFault.{RunFault}
use Rattle.tn_session.specs.declared.fault.RunFault.TheVariants.{Wire, Session, OutOfMemory}
use Rattle.tn_session.specs.declared.progress.Progress.{Progress}
use Rattle.tn_session.specs.declared.terminal_state.TerminalState.{TerminalState}
use Rattle.tn_session.specs.OneLog.{has_failed, is_at_fault}
use Rattle.tn_session.specs.Talk.{Adds, Talk, stands, starved}
use Rattle.tn_session.specs.TerminalTalk.{OfStanding, TerminalTakes, agreed_in, lu_name_in}
use Rattle.cli_scripts.specs.Answers.{printed_name}
use Rattle.cli_scripts.specs.declared.deed.Deed.{Deed}
use Rattle.cli_scripts.specs.declared.deed.Deed.TheVariants.{Begun}
use Rattle.cli_scripts.specs.Deeds.{DidSo, new_talk}
use Rattle.cli_scripts.specs.SentOn.{SentOn}

pub record NamedHost : Type 0 where
  pub name : List ℕ
  pub port : ℕ

-- a connection to a host, where the logical unit has this name
abbrev pub link_of_host : Option NamedHost → Protocol → List ℕ → Option Link
link_of_host None protocol lu_name = None
link_of_host (Some host) protocol lu_name =
    Some (record { host = host.name; port = host.port; protocol = protocol; lu_name = lu_name })

-- The session, the host while it is connected, how often it was read, why the last session failed, all that was done at it and was heard of
-- hosts, and the bytes that were due: those that were handed out, and those that weren't. Where screens on which keys send are collected to be
-- judged, so are those: the ones that were handed out, and the ones that weren't. And how many records the session had taken when that was last asked.
pub record Worked : Type 0 where
  pub device : Device
  pub talk : Talk TerminalState
  pub host : Option NamedHost
  pub was_read : Bool
  pub reads : ℕ
  pub fault : Option RunFault
  pub deeds : List Deed
  pub heard : List ℕ
  pub gone : List ℕ
  pub due : List ℕ
  pub collects : Bool
  pub judged : List SentOn
  pub unjudged : List SentOn
  pub told : ℕ

-- a terminal that isn't connected
abbrev pub desk_of : Device → Bool → Worked
desk_of device collects = record {
  device = device;
  talk = new_talk device;
  host = None;
  was_read = false;
  reads = 0;
  fault = None;
  deeds = [];
  heard = [];
  gone = [];
  due = [];
  collects = collects;
  judged = [];
  unjudged = [];
  told = 0;
}

abbrev pub new_desk : Device → Worked
new_desk device = desk_of device false

-- What was heard and was done led from the terminal's first session to this one, and gave all bytes that were due, and no others. The screens
-- that are collected are those on which the keys among it sent, each as it was before its key.
abbrev pub DidAll : Worked → Type 0
DidAll w = DidSo w.device w.deeds w.heard (w.gone ++ w.due) w.talk w.collects (w.judged ++ w.unjudged)

-- the picture that it shows
abbrev pub Shows : Worked → Picture → Type 0
Shows w v = OfStanding (λ state. state.terminal) w.talk v

-- the device that was agreed on, or the one that is asked for
abbrev pub device_of : Option Agreed → Device → Device
device_of None asked = asked
device_of (Some agreed) asked = agreed.device

abbrev pub device_in : Worked → Device
device_in w = device_of (agreed_in w.talk) w.device

abbrev pub model_number : ScreenModel → ℕ
model_number Two = 2
model_number Three = 3
model_number Four = 4
model_number Five = 5

abbrev pub protocol_of : Option Agreed → Protocol
protocol_of None = Tn3270
protocol_of (Some agreed) = if agreed.enhanced then Tn3270e else Tn3270

-- what is known of its connection, where the logical unit's name is told so
abbrev pub link_in : Worked → List ℕ → Option Link
link_in w lu_name = link_of_host w.host (protocol_of (agreed_in w.talk)) lu_name

abbrev pub named_in : Worked → Named
named_in w = record { name = name_of (device_in w); version = codes "Takvorn 1.0.0" }

-- Query of these words says this of a terminal
abbrev pub TellsQuery : Worked → Query → List (List ℕ) → List ℕ → List ℕ → Outcome → Type 0
TellsQuery w query words before after outcome =
    (v : Picture) × Shows w v
    × Says before after outcome (said_of_query v (link_in w (printed_name (lu_name_in w.talk))) (named_in w) query words)

-- all that was due was handed out
abbrev pub handed_due : Worked → Worked
handed_due w = record w { gone = w.gone ++ w.due; due = [] }

-- all screens were handed out
abbrev pub handed_screens : Worked → Worked
handed_screens w = record w { judged = w.judged ++ w.unjudged; unjudged = [] }

abbrev pub is_waiting : Lock → Bool
is_waiting Waiting = true
is_waiting Free = false
is_waiting Error = false

abbrev pub is_error : Lock → Bool
is_error Error = true
is_error Free = false
is_error Waiting = false

-- no screen was handed out, and they are collected or not, as before
abbrev pub KeepsScreens : Worked → Worked → Type 0
KeepsScreens old new = (new.judged ≡ old.judged) × (new.collects ≡ old.collects)

-- ---- a session begins, and is over

-- a session anew with this host
abbrev pub opened : Worked → NamedHost → Worked
opened w host = record w {
  talk = new_talk w.device;
  host = Some host;
  was_read = false;
  reads = 0;
  fault = None;
  deeds = w.deeds ++ Begun ∷ [];
  told = 0;
}

-- why a call failed, if it did
abbrev pub why_of : {A : Type 0} → Result A RunFault → Option RunFault
why_of (Ok done) = None
why_of (Err why) = Some why

-- why a session failed
abbrev pub fault_in : Talk TerminalState → Option RunFault
fault_in (stands (has_failed why end)) = Some why
fault_in (stands (is_at_fault fault end)) = Some (Wire fault)
fault_in starved = Some OutOfMemory
fault_in talk = None

-- reads are counted up to the last one of a session
abbrev pub read_again : ℕ → ℕ
read_again reads = if nat_lt reads 1000000 then reads + 1 else reads

-- why a session is over after so many reads: it failed, or the last of them was made
abbrev pub over_by : Option RunFault → ℕ → Option RunFault
over_by (Some why) reads = Some why
over_by None reads = if nat_le 1000000 reads then Some (Session TooManyReads) else None

-- the host, and the fault that is to be told, after a session that is over by this or goes on
abbrev pub host_after : Option RunFault → Option NamedHost → Option NamedHost
host_after None host = host
host_after (Some why) host = None

abbrev pub fault_after : Option RunFault → Option RunFault → Option RunFault
fault_after None fault = fault
fault_after (Some why) fault = Some why

-- the session is over by this, or goes on
abbrev pub over : Option RunFault → Worked → Worked
over why w = record w { host = host_after why w.host; fault = fault_after why w.fault }

-- one read more, after which a session that didn't fail may be over
abbrev pub counted : Worked → Worked
counted w = over (over_by None (read_again w.reads)) (record w { reads = read_again w.reads })

-- the session took bytes of the host, and what it gave for them is due
abbrev pub TakesBytes : Worked → List ℕ → Worked → Type 0
TakesBytes old bytes new =
    (told : Result Progress RunFault) × Adds old.due new.due (λ given. TerminalTakes old.talk bytes told given new.talk)

-- nothing else changes by it
abbrev pub KeepsRest : Worked → Worked → Type 0
KeepsRest old new =
    (new.device ≡ old.device) × (new.gone ≡ old.gone) × (new.collects ≡ old.collects) × (new.judged ≡ old.judged) × (new.unjudged ≡ old.unjudged)

-- whether a record was shown by a read, after which the session failed for this reason or goes on
abbrev pub AsksShown : Option RunFault → Worked → Worked → Bool → Type 0
AsksShown None old new shown =
    OfStanding (λ state. nat_lt old.told state.taken) new.talk shown × OfStanding (λ state. state.taken) new.talk new.told
AsksShown (Some why) old new shown = (shown ≡ false) × (new.told ≡ old.told)

-- One read was made, for which memory was not refused, and the session is over or goes on after it. Where a record was shown, which is where the
-- session took more records than when that was last asked, the screen wasn't read since. Of a session that failed by it that isn't asked.
abbrev pub HearsOnce : Worked → List ℕ → Bool → Worked → Type 0
HearsOnce old bytes shown new =
    TakesBytes old bytes new
    × (new.reads ≡ read_again old.reads)
    × (new.host ≡ host_after (over_by (fault_in new.talk) new.reads) old.host)
    × (new.fault ≡ fault_after (over_by (fault_in new.talk) new.reads) old.fault)
    × (new.was_read ≡ (old.was_read && not shown))
    × KeepsRest old new
    × (fault_in new.talk ≡ Some OutOfMemory → ⊥)
    × AsksShown (fault_in new.talk) old new shown

-- nothing was heard, and nothing handed out
abbrev pub Keeps : Worked → Worked → Type 0
Keeps old new = (new.heard ≡ old.heard) × (new.gone ≡ old.gone) × (new.judged ≡ old.judged) × (new.collects ≡ old.collects)
