-- Of one address at most so many are accepted in a second.
use Rattle.std.proofs.Common.{◌≡◌, ℕ, ◌+◌, ◌<◌, ◌≤◌, Bool, true, false, cond, nat_lt, nat_le, List, [], ◌∷◌, ◌++◌, length, filter, refl, arith, subst, ltb-true, lt-ltb, leb-true, eqb-true, append-nil, length-append}
use Rattle.std.specs.Prelude.{if◌then◌else◌}
use Rattle.std.proofs.lemmas.Bool.{and_parts}
use Rattle.std.proofs.lemmas.List.Elements.{filter-append}
use Rattle.accept_limit.specs.declared.limit.Arrival.{Arrival}
use Rattle.accept_limit.specs.Arrivals.{is_recent, recent, is_of, count_of, has_room, is_accepted, with_arrival, accepted, is_within, count_within, IsWithinLimit}
use Rattle.accept_limit.proofs.Counts.{counts_more}

-- what came in a second in which another one comes is recent when this one comes
within_recent : (from : ℕ) (arrival other : Arrival) → is_within from arrival ≡ true → is_within from other ≡ true → is_recent arrival.at other ≡ true
within_recent from arrival other here there =
    let a = and_parts (nat_le from arrival.at) (nat_lt arrival.at (from + 1000)) here in
    let b = and_parts (nat_le from other.at) (nat_lt other.at (from + 1000)) there in
    lt-ltb _ _ (omega (arith, ltb-true _ _ a.1, leb-true _ _ b.0))

-- those of an address that came in that second are no more than the recent ones
few_within : (address from : ℕ) (before : List Arrival) (arrival : Arrival) → is_within from arrival ≡ true
    → count_within address from before ≤ count_of address (recent arrival.at before)
few_within address from before arrival here = counts_more (is_of address) (is_within from) (is_recent arrival.at) (λ other. within_recent from arrival other here) before

room_of : (most : ℕ) (arrivals : List Arrival) (arrival : Arrival) → has_room most arrivals arrival ≡ true → count_of arrival.address arrivals < most
room_of most arrivals arrival room = ltb-true _ _ (and_parts (nat_lt (count_of arrival.address arrivals) most) (nat_lt (length arrivals) 4096) room).0

-- one more of the second, by whether it is of the address
own : (most address from : ℕ) (before : List Arrival) (arrival : Arrival) (b : Bool) → is_of address arrival ≡ b → count_within address from before ≤ most
    → (arrival.address ≡ address → count_within address from before < most)
    → length (filter (is_of address) (filter (is_within from) before) ++ cond b (arrival ∷ []) []) ≤ most
own most address from before arrival true is few room =
    rw (length-append (filter (is_of address) (filter (is_within from) before)) (arrival ∷ [])) (omega (arith, room (eqb-true _ _ is)))
own most address from before arrival false is few room = rw (append-nil (filter (is_of address) (filter (is_within from) before))) few

-- one more that was accepted, by whether it came in the second
one_more : (most address from : ℕ) (before : List Arrival) (arrival : Arrival) (b : Bool) → is_within from arrival ≡ b → count_within address from before ≤ most
    → has_room most (recent arrival.at before) arrival ≡ true
    → length (filter (is_of address) (filter (is_within from) before ++ cond b (arrival ∷ []) [])) ≤ most
one_more most address from before arrival true is few room =
    rw (filter-append (is_of address) (filter (is_within from) before) (arrival ∷ []))
    (own most address from before arrival (is_of address arrival) refl few
    (λ same. omega (arith, few_within address from before arrival is, subst (λ a. count_of a (recent arrival.at before) < most) same (room_of most (recent arrival.at before) arrival room))))
one_more most address from before arrival false is few room = rw (append-nil (filter (is_within from) before)) few

step : (most address from : ℕ) (before : List Arrival) (arrival : Arrival) (b : Bool) → is_accepted most before arrival ≡ b → count_within address from before ≤ most
    → count_within address from (if b then before ++ arrival ∷ [] else before) ≤ most
step most address from before arrival true is few =
    rw (filter-append (is_within from) before (arrival ∷ [])) (one_more most address from before arrival (is_within from arrival) refl few is)
step most address from before arrival false is few = few

all_within : (most address from : ℕ) (before arrivals : List Arrival) → count_within address from before ≤ most → count_within address from (accepted most before arrivals) ≤ most
all_within most address from before [] few = few
all_within most address from before (arrival ∷ arrivals) few =
    all_within most address from (with_arrival most before arrival) arrivals (step most address from before arrival (is_accepted most before arrival) refl few)

pub within_limit : IsWithinLimit
within_limit most address from arrivals = all_within most address from [] arrivals (omega arith)
