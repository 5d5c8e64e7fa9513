-- What is told of one terminal, as any hosts tell it.
use Rattle.std.proofs.Common.{◌≡◌, ◌+◌, ℕ, List, Option, Some, None, Result, Ok, Err, refl, sym, subst}
use Rattle.cli_commands.specs.declared.status.Status.{Status}
use Rattle.cli_commands.specs.declared.status.Status.TheVariants.{Done, Findings, BadInput, Failed, NoMemory}
use Rattle.cli_sessions.specs.Printing.{Printing}
use Rattle.scr_layout.specs.Entry.{Declared}
use Rattle.session_hub.specs.declared.hub.Ended.{Ended}
use Rattle.session_hub.specs.Hubs.{Taking, Room, At, Opens, Steps, seat_at}
use Rattle.cli_hosts.specs.declared.settling.Settled.{Settled}
use Rattle.cli_hosts.specs.Hosting.{Hosting}
use Rattle.cli_hosts.specs.Hosts.{TellsOne, SettlesOne, Opened}
use Rattle.cli_hosts.specs.Screens.{IsToldOf}
use Rattle.cli_hosts.specs.Words.{word_ended, word_lines, settled_of, Settles}

pub tells_one : (entries : List Declared) (ended : Option (Ended Hosting)) (old new : Printing) (result : Result (Option Settled) Status)
    → Settles entries ended old new result → TellsOne (IsToldOf entries) old new result
tells_one entries None old new result (is, same) = subst (TellsOne (IsToldOf entries) old new) (sym is) same
tells_one entries (Some ended) old new (Ok (Some settled)) (written, is) =
    (ended.number, word_lines entries ended.number (word_ended ended), (word_ended ended, refl, is), written)
tells_one entries (Some ended) old new (Ok None) printed = absurd printed
tells_one entries (Some ended) old new (Err NoMemory) same = same
tells_one entries (Some ended) old new (Err Failed) part =
    (ended.number, settled_of (word_ended ended), word_lines entries ended.number (word_ended ended), (word_ended ended, refl, refl), part)
tells_one entries (Some ended) old new (Err Done) printed = absurd printed
tells_one entries (Some ended) old new (Err Findings) printed = absurd printed
tells_one entries (Some ended) old new (Err BadInput) printed = absurd printed

pub settles_one : (entries : List Declared) (ended : Option (Ended Hosting)) (old new : Printing) (result : Result (Option Settled) Status)
    → Settles entries ended old new result → SettlesOne ended result
settles_one entries None old new result (is, same) = is
settles_one entries (Some ended) old new (Ok (Some settled)) printed = tt
settles_one entries (Some ended) old new (Ok None) printed = printed
settles_one entries (Some ended) old new (Err status) printed = tt

-- a terminal that came to the hub that hosts have
pub opens_one : {S : Type 0} (takes : Taking S) (room old : Room S) (now token : ℕ) (new : Room S) (session : S) (opening : List ℕ) → room ≡ old
    → Steps takes room.limits (At token (Opens (room.came + 1) now session opening)) room.seats new.seats
    → seat_at token room.seats ≡ None → new.came ≡ room.came + 1 → Opened takes old now new (Some token)
opens_one takes room old now token new session opening same steps free counted =
    subst (λ r. Opened takes r now new (Some token)) same (session, opening, steps, free, counted)
