-- What became of the terminals that came and went, and the status that belongs to it.
use Rattle.std.specs.Prelude.{ℕ, ◌+◌, nat_lt, nat_le, Bool, true, false, ◌&&◌, ◌||◌, List, [], ◌∷◌, if◌then◌else◌}
use Rattle.cli_commands.specs.declared.status.Status.{Status}
use Rattle.cli_commands.specs.declared.status.Status.TheVariants as statuses
use Rattle.cli_hosts.specs.declared.settling.Settled.{Settled}
use Rattle.cli_hosts.specs.declared.settling.Settled.TheVariants.{Answered, Failed, Starved}
use Rattle.host_server.specs.declared.asked.Asked.{Asked}
use Rattle.host_server.specs.declared.tally.Tally.{Tally}

abbrev pub one_more : ℕ → ℕ
one_more count = if nat_lt count 18446744073709551615 then count + 1 else count

abbrev pub no_tally : Tally
no_tally = record { settled = 0; answered = 0; has_failed = false; has_starved = false }

-- one more terminal went, of which this became
abbrev pub counted : Tally → Settled → Tally
counted tally Answered = record tally { settled = one_more tally.settled; answered = one_more tally.answered }
counted tally Failed = record tally { settled = one_more tally.settled; has_failed = true }
counted tally Starved = record tally { settled = one_more tally.settled; has_starved = true }

-- terminals in turn
abbrev pub tally_after : Tally → List Settled → Tally
tally_after tally [] = tally
tally_after tally (settled ∷ others) = tally_after (counted tally settled) others

abbrev pub has_answers : Asked → Tally → Bool
has_answers asked tally = nat_lt 0 asked.answers && nat_le asked.answers tally.answered

-- all came and went, or enough answered
abbrev pub is_done_by : Asked → Tally → Bool
is_done_by asked tally = (nat_lt 0 asked.count && nat_le asked.count tally.settled) || has_answers asked tally

-- well where enough answered, whoever else came
abbrev pub status_of : Asked → Tally → Bool → Status
status_of asked tally refused =
    if has_answers asked tally then statuses.Done
    else (if tally.has_starved || refused then statuses.NoMemory
    else (if tally.has_failed then statuses.Failed else statuses.Done))
