-- Which connections are accepted, of those that come.
use Rattle.std.specs.Prelude.{ℕ, ◌≡◌, ◌+◌, ◌-◌, ◌≤◌, ◌==◌, nat_lt, nat_le, Bool, ◌&&◌, List, [], ◌∷◌, ◌++◌, length, if◌then◌else◌}
use Rattle.std.specs.List.{filter}
use Rattle.accept_limit.specs.declared.limit.Arrival.{Arrival}

-- ---- by all that were accepted before

-- it came less than a second ago
abbrev pub is_recent : ℕ → Arrival → Bool
is_recent now arrival = nat_lt (now - arrival.at) 1000

abbrev pub recent : ℕ → List Arrival → List Arrival
recent now arrivals = filter (is_recent now) arrivals

abbrev pub is_of : ℕ → Arrival → Bool
is_of address arrival = arrival.address == address

abbrev pub count_of : ℕ → List Arrival → ℕ
count_of address arrivals = length (filter (is_of address) arrivals)

-- fewer than so many of its address are among them, and fewer than 4,096 of all
abbrev pub has_room : ℕ → List Arrival → Arrival → Bool
has_room most arrivals arrival = nat_lt (count_of arrival.address arrivals) most && nat_lt (length arrivals) 4096

-- those that were accepted in the second before it leave room
abbrev pub is_accepted : ℕ → List Arrival → Arrival → Bool
is_accepted most before arrival = has_room most (recent arrival.at before) arrival

abbrev pub with_arrival : ℕ → List Arrival → Arrival → List Arrival
with_arrival most before arrival = if is_accepted most before arrival then before ++ arrival ∷ [] else before

-- those that are accepted of what comes, behind those before
abbrev pub accepted : ℕ → List Arrival → List Arrival → List Arrival
accepted most before [] = before
accepted most before (arrival ∷ arrivals) = accepted most (with_arrival most before arrival) arrivals

-- ---- in any second

-- it came in the second from a time on
abbrev pub is_within : ℕ → Arrival → Bool
is_within from arrival = nat_le from arrival.at && nat_lt arrival.at (from + 1000)

abbrev pub count_within : ℕ → ℕ → List Arrival → ℕ
count_within address from arrivals = count_of address (filter (is_within from) arrivals)

-- Of one address at most so many are accepted in a second, from whatever time on, and whatever came.
abbrev pub IsWithinLimit : Type 0
IsWithinLimit = (most address from : ℕ) (arrivals : List Arrival) → count_within address from (accepted most [] arrivals) ≤ most

-- ---- by those that are kept in mind

-- how many are accepted of one address, and those that were in the last second
pub record Limit : Type 0 where
  pub most : ℕ
  pub kept : List Arrival

abbrev pub limit_of : ℕ → Limit
limit_of most = record { most = most; kept = [] }

-- those that came a second ago or earlier go
abbrev pub forgotten : Limit → ℕ → Limit
forgotten limit now = record limit { kept = recent now limit.kept }

abbrev pub added : ℕ → List Arrival → Arrival → List Arrival
added most kept arrival = if has_room most kept arrival then kept ++ arrival ∷ [] else kept

-- a connection came
abbrev pub after : Limit → Arrival → Limit
after limit arrival = record limit { kept = added limit.most (recent arrival.at limit.kept) arrival }

abbrev pub after_all : Limit → List Arrival → Limit
after_all limit [] = limit
after_all limit (arrival ∷ arrivals) = after_all (after limit arrival) arrivals

-- none came before the one that came before it
abbrev pub AreInOrder : ℕ → List Arrival → Type 0
AreInOrder from [] = Unit {0}
AreInOrder from (arrival ∷ arrivals) = (from ≤ arrival.at) × AreInOrder arrival.at arrivals

-- What is kept in mind says of one more what all that were accepted before say.
abbrev pub FollowsHistory : Type 0
FollowsHistory = (most : ℕ) (arrivals : List Arrival) (arrival : Arrival) → AreInOrder 0 (arrivals ++ arrival ∷ [])
    → is_accepted most (after_all (limit_of most) arrivals).kept arrival ≡ is_accepted most (accepted most [] arrivals) arrival

-- Of no more than 4,096 is anything kept.
abbrev pub HasRoomForAll : Type 0
HasRoomForAll = (most : ℕ) (arrivals : List Arrival) → length (after_all (limit_of most) arrivals).kept ≤ 4096
