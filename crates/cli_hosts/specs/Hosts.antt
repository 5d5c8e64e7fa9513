-- What is told of terminals, whatever they are served.
use Rattle.std.specs.Prelude.{ℕ, ◌≡◌, ◌+◌, ◌⊎◌, true, false, List, Option, Some, None, Result, Ok, Err}
use Rattle.cli_commands.specs.declared.status.Status.{Status}
use Rattle.cli_commands.specs.declared.status.Status.TheVariants.{Failed, NoMemory}
use Rattle.session_hub.specs.declared.hub.Ended.{Ended}
use Rattle.session_hub.specs.Hubs.{Taking, At, Opens, Room, Steps, seat_at}
use Rattle.cli_sessions.specs.Printing.{Printing, IsPrinted}
use Rattle.cli_hosts.specs.declared.settling.Settled.{Settled}
use Rattle.cli_hosts.specs.Writing.{Writes}

-- what may be printed of the terminal of a number, where this became of it
abbrev pub Told : Type 1
Told = ℕ → Settled → List ℕ → Type 0

-- one terminal's lines were written; or a write of them failed, or memory was refused for them
abbrev pub TellsOne : Told → Printing → Printing → Result (Option Settled) Status → Type 0
TellsOne IsTold old new (Ok None) = new ≡ old
TellsOne IsTold old new (Ok (Some settled)) = (number : ℕ) × (text : List ℕ) × IsTold number settled text × IsPrinted old new text true
TellsOne IsTold old new (Err NoMemory) = new ≡ old
TellsOne IsTold old new (Err Failed) = (number : ℕ) × (settled : Settled) × (text : List ℕ) × IsTold number settled text × Writes old new text false
TellsOne IsTold old new (Err status) = ⊥

-- a terminal that ended is told, or the command ends; of another nothing is told
abbrev pub SettlesOne : {S : Type 0} → Option (Ended S) → Result (Option Settled) Status → Type 0
SettlesOne None result = result ≡ Ok None
SettlesOne (Some ended) (Ok None) = ⊥
SettlesOne (Some ended) result = Unit {0}

-- A terminal that came has the next number and a token that no other has, and a session at its beginning; else the seats stay.
abbrev pub Opened : {S : Type 0} → Taking S → Room S → ℕ → Room S → Option ℕ → Type 0
Opened {S = S} takes old now new (Some token) =
    (session : S) × (opening : List ℕ) × Steps takes old.limits (At token (Opens (old.came + 1) now session opening)) old.seats new.seats
    × (seat_at token old.seats ≡ None) × (new.came ≡ old.came + 1)
Opened takes old now new None = ((t : ℕ) → seat_at t new.seats ≡ seat_at t old.seats) × (new.came ≡ old.came)
