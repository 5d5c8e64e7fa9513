-- A connection as the program holds it.
use Rattle.std.specs.Prelude.{◌≡◌, ℕ, List, [], ◌++◌, length, None, Result}
use Rattle.tn_wire.specs.Stream.{Tells}
use Rattle.tn_wire.specs.Deframer.{Held}
use Rattle.tn_session.specs.declared.fault.RunFault.{RunFault}
use Rattle.tn_session.specs.declared.fault.RunFault.TheVariants.{Wire, Header, Session, Inbound, Bind, OutOfMemory}
use Rattle.tn_traces.specs.declared.line.Side.{Side}
use Rattle.cli_traces.specs.declared.follower.Follower.{Follower}
use Rattle.cli_traces.specs.declared.line.Next.{Next}
use Rattle.cli_traces.specs.declared.line.Next.TheVariants.{Goes, Stops}
use Rattle.cli_traces.specs.declared.reading.Task.{Task}
use Rattle.cli_traces.specs.Following.{Following, Course, goes, stops, open_of, with_open}
use Rattle.cli_traces.specs.Reading.{event_log}
use Rattle.cli_traces.specs.Taking.{TakesPiece}
use Rattle.cli_traces.specs.Text.{wire_name, header_name, other_size_name, fault_text}

abbrev pub following_seen : Follower → Following
following_seen follower = record { host = follower.host.content; terminal = follower.terminal.content; reading = follower.reading }

-- the stream goes on: no fault was met, what is open tells nothing by itself, and is counted
abbrev pub IsOpen : Held → ℕ → Type 0
IsOpen held count = (held.fault ≡ None) × Tells held.content [] held.content × (count ≡ length held.content)

abbrev pub IsReady : Follower → Type 0
IsReady follower = IsOpen follower.host follower.host_count × IsOpen follower.terminal follower.terminal_count

abbrev pub course_seen : Next → Following → Course
course_seen Goes following = goes following
course_seen Stops following = stops

-- a piece of what a side sent was taken, and the other side's stream is as it was
abbrev pub TakesSide : Task → Side → Following → List ℕ → List ℕ → Result (Unit {0}) RunFault → Following → List ℕ → Type 0
TakesSide task side old piece text result new added =
    TakesPiece (event_log task.asked task.side task.line) (open_of side old) old.reading piece text result (open_of side new) new.reading added
    × (new ≡ with_open side old (open_of side new) new.reading)

-- the line of a fault was added
abbrev pub AddsFault : ℕ → RunFault → List ℕ → List ℕ → Type 0
AddsFault number (Wire fault) old new = new ≡ old ++ fault_text number (wire_name fault)
AddsFault number (Header fault) old new = new ≡ old ++ fault_text number (header_name fault)
AddsFault number (Session fault) old new = new ≡ old ++ fault_text number other_size_name
AddsFault number (Inbound fault) old new = ⊥
AddsFault number (Bind fault) old new = ⊥
AddsFault number OutOfMemory old new = ⊥
