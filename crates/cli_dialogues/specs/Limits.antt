-- How far a terminal may go with the host of an application.
use Rattle.std.specs.Prelude.{ℕ, ◌+◌, max, List, [], ◌∷◌, map, sum_by}
use Rattle.session_hub.specs.declared.seat.Limits.{Limits}
use Rattle.tn_dialogue.specs.declared.screen.Screen.{Screen}
use Rattle.cli_hosts.specs.Limits.{counted, room_of}

-- the bytes of a screen's records on their way, at most
abbrev pub screen_room : Screen → ℕ
screen_room screen = sum_by room_of (map (λ bytes. bytes.items) screen.records.items)

-- the greatest of some numbers; 0 of none
abbrev pub greatest : List ℕ → ℕ
greatest [] = 0
greatest (n ∷ others) = max n (greatest others)

-- 1,048,576 bytes may come, and 65,536 bytes may wait to go out beside the records of the longest screen
abbrev pub limits_over : ℕ → List Screen → Limits
limits_over patience screens =
    record { patience = patience; most_heard = 1048576; most_due = counted (65536 + greatest (map screen_room screens)) }
