-- What a server prints of its terminals, and how it ends.
use Rattle.std.specs.Prelude.{ℕ, ◌≡◌, ◌<◌, ◌≤◌, ◌⊎◌, nat_eq, if◌then◌else◌, Bool, true, false, List, [], ◌∷◌, ◌++◌, length, Result, Ok, Err}
use Rattle.std.specs.Io.KnownBytes.{Appends}
use Rattle.std.specs.declared.net.socket_addr.SocketAddr.{SocketAddr}
use Rattle.accept_limit.specs.Arrivals.{Limit, limit_of}
use Rattle.session_hub.specs.Hubs.{Room}
use Rattle.cli_commands.specs.declared.status.Status.{Status}
use Rattle.cli_commands.specs.declared.status.Status.TheVariants.{Failed, NoMemory}
use Rattle.cli_commands.specs.Causes.{HasFailed}
use Rattle.cli_commands.specs.Streams.{AppendsFront}
use Rattle.cli_sessions.specs.Printing.{Printing, IsPrinted}
use Rattle.cli_hosts.specs.declared.settling.Settled.{Settled as Outcome}
use Rattle.cli_hosts.specs.Hosts.{Told}
use Rattle.host_server.specs.declared.asked.Asked.{Asked}
use Rattle.host_server.specs.declared.tally.Tally.{Tally}
use Rattle.host_server.specs.Tallies.{no_tally, tally_after, is_done_by, status_of}
use Rattle.host_server.specs.Waiting.{Waiting, added, most_waiting}

-- the hosts, what is asked for, and where is listened; what came of each address in the last second; whether memory was refused to one
-- that came; and what became of the terminals that came and went
pub record Serving (H : Type 0) : Type 0 where
  pub hosts : H
  pub asked : Asked
  pub address : SocketAddr
  pub limit : Limit
  pub refused : Bool
  pub tally : Tally

abbrev pub serving : {H : Type 0} → H → Asked → SocketAddr → Serving H
serving hosts asked address = record {
  hosts = hosts;
  asked = asked;
  address = address;
  limit = limit_of asked.per_second;
  refused = false;
  tally = no_tally;
}

abbrev pub is_done : {H : Type 0} → Serving H → Bool
is_done server = is_done_by server.asked server.tally

-- so many terminals may come; 0 is any number
abbrev pub most_of : ℕ → ℕ
most_of count = if nat_eq count 0 then 18446744073709551615 else count

-- no more came than may
abbrev pub AreFew : {H S : Type 0} → (H → Room S) → Asked → H → Type 0
AreFew room asked hosts = (room hosts).came ≤ most_of asked.count

-- what is served, what is asked for, where is listened and what was counted stay; and no more come than may
pub record Keeps {H C S : Type 0} (content : H → C) (room : H → Room S) (old new : Serving H) : Type 0 where
  pub served : content new.hosts ≡ content old.hosts
  pub asked : new.asked ≡ old.asked
  pub address : new.address ≡ old.address
  pub tally : new.tally ≡ old.tally
  pub few : AreFew room old.asked old.hosts → AreFew room old.asked new.hosts

-- ---- terminals that went

-- one: its number, what became of it, and the text that tells of it
pub record Went : Type 0 where
  pub number : ℕ
  pub outcome : Outcome
  pub text : List ℕ

-- the texts in turn
abbrev pub texts_of : List Went → List ℕ
texts_of [] = []
texts_of (one ∷ went) = one.text ++ texts_of went

-- what became of each, in turn
abbrev pub outcomes_of : List Went → List Outcome
outcomes_of [] = []
outcomes_of (one ∷ went) = one.outcome ∷ outcomes_of went

abbrev pub AreTold : Told → List Went → Type 0
AreTold IsTold [] = Unit {0}
AreTold IsTold (one ∷ went) = IsTold one.number one.outcome one.text × AreTold IsTold went

-- the text tells of a terminal of some number
abbrev pub TellsOf : Told → Outcome → List ℕ → Type 0
TellsOf IsTold outcome text = (number : ℕ) × IsTold number outcome text

-- what hosts tell of terminals, by what they serve
abbrev pub Telling : Type 0 → Type 1
Telling C = C → Told

-- These terminals went, and what became of them was counted; and no more came than may.
pub record Settled {H C S : Type 0} (content : H → C) (room : H → Room S) (IsTold : Telling C) (old new : Serving H) : Type 0 where
  pub went : List Went
  pub told : AreTold (IsTold (content old.hosts)) went
  pub served : content new.hosts ≡ content old.hosts
  pub asked : new.asked ≡ old.asked
  pub address : new.address ≡ old.address
  pub tally : new.tally ≡ tally_after old.tally (outcomes_of went)
  pub few : AreFew room old.asked old.hosts → AreFew room old.asked new.hosts

-- ---- their texts

abbrev pub all_added : Waiting → List Went → Waiting
all_added waiting [] = waiting
all_added waiting (one ∷ went) = all_added (added waiting one.text) went

-- Terminals went, and their texts wait after those that did.
pub record Goes {H C S : Type 0} (content : H → C) (room : H → Room S) (IsTold : Telling C) (old new : Serving H) (waiting later : Waiting) : Type 0 where
  pub settled : Settled content room IsTold old new
  pub waits : later ≡ all_added waiting settled.went

-- all of the texts, or a front of them where one was left out
abbrev pub IsFront : Bool → List ℕ → List ℕ → Type 0
IsFront false texts front = texts ≡ front
IsFront true texts front = (rest : List ℕ) × (texts ≡ front ++ rest)

-- no write failed; or one did, or more would have waited than may
abbrev pub IsCause : Bool → Printing → Printing → List ℕ → Type 0
IsCause false before after texts = after.failures ≡ before.failures
IsCause true before after texts = HasFailed before.failures after.failures ⊎ (most_waiting < length texts)

-- Terminals went: what was written and what waits are their texts, in turn.
pub record Prints {H C S : Type 0} (content : H → C) (room : H → Room S) (IsTold : Telling C) (old new : Serving H) (before after : Printing) (waiting : Waiting) : Type 0 where
  pub settled : Settled content room IsTold old new
  pub gone : List ℕ
  pub written : Appends before.written after.written gone
  pub front : IsFront waiting.cut (texts_of settled.went) (gone ++ waiting.bytes)
  pub cause : IsCause waiting.cut before after (texts_of settled.went)

-- ---- the end

-- the status is that of the tally, and of whether memory was refused to one that came
abbrev pub EndsSo : {H : Type 0} → Serving H → Status → Type 0
EndsSo server status = status ≡ status_of server.asked server.tally server.refused

-- the status, unless a text was left out; memory may be refused for a text
abbrev pub StopsSo : {H E : Type 0} → Serving H → Waiting → Result Status E → Type 0
StopsSo server waiting (Ok status) = EndsSo server status ⊎ ((status ≡ NoMemory) ⊎ (waiting.cut ≡ true))
StopsSo server waiting (Err error) = Unit {0}

-- a front of the texts was written: a write failed, or more would have waited than may
abbrev pub IsCut : List ℕ → Printing → Printing → Type 0
IsCut texts before after = AppendsFront before.written after.written texts × IsCause true before after texts

-- Terminals went. Their texts were written, whole and in turn, and the status is theirs, or memory was refused for one more; or a front of
-- the texts was, and the status says so.
abbrev pub EndsAfter : {H C S : Type 0} → (H → C) → (H → Room S) → Telling C → Serving H → Serving H → Printing → Printing → Status → Type 0
EndsAfter content room IsTold old new before after status =
    (settled : Settled content room IsTold old new)
    × ((IsPrinted before after (texts_of settled.went) true × (EndsSo new status ⊎ (status ≡ NoMemory)))
    ⊎ (IsCut (texts_of settled.went) before after × (status ≡ Failed)))

abbrev pub ServesAll : {H C S E : Type 0} → (H → C) → (H → Room S) → Telling C → Serving H → Serving H → Printing → Printing → Result Status E → Type 0
ServesAll content room IsTold old new before after (Ok status) = EndsAfter content room IsTold old new before after status
ServesAll content room IsTold old new before after (Err error) =
    (settled : Settled content room IsTold old new) × IsPrinted before after (texts_of settled.went) true
