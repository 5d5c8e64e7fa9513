-- What is kept in mind says what all that were accepted say.
use Rattle.std.proofs.Common.{◌≡◌, ℕ, suc, ◌≤◌, Bool, true, false, cond, nat_lt, List, [], ◌∷◌, ◌++◌, length, filter, ap, sym, refl, arith, ltb-true, lt-ltb, length-append, ◌∙◌}
use Rattle.std.specs.Prelude.{if◌then◌else◌}
use Rattle.std.proofs.lemmas.Bool.{and_parts}
use Rattle.std.proofs.lemmas.List.Elements.{filter-append}
use Rattle.accept_limit.specs.declared.limit.Arrival.{Arrival}
use Rattle.accept_limit.specs.Arrivals.{is_recent, recent, has_room, count_of, is_accepted, with_arrival, accepted, Limit, limit_of, after, after_all, AreInOrder, FollowsHistory, HasRoomForAll}
use Rattle.accept_limit.proofs.Counts.{filter_after}

earlier : (last now : ℕ) → last ≤ now → (arrival : Arrival) → is_recent now arrival ≡ true → is_recent last arrival ≡ true
earlier last now later arrival is = lt-ltb _ _ (omega (arith, later, ltb-true _ _ is))

-- what is recent now was recent before
recent_again : (last now : ℕ) (before : List Arrival) → last ≤ now → recent now (recent last before) ≡ recent now before
recent_again last now before later = filter_after (is_recent now) (is_recent last) (earlier last now later) before

itself : (arrival : Arrival) → is_recent arrival.at arrival ≡ true
itself arrival = lt-ltb _ _ (omega arith)

-- one that is accepted now is recent
recent_more : (before : List Arrival) (arrival : Arrival) (b : Bool)
    → recent arrival.at (if b then before ++ arrival ∷ [] else before) ≡ (if b then recent arrival.at before ++ arrival ∷ [] else recent arrival.at before)
recent_more before arrival true = rw (filter-append (is_recent arrival.at) before (arrival ∷ []), itself arrival) refl
recent_more before arrival false = refl

-- what is kept are those of all that were accepted that were recent when the last one came
pub record Follows (most last : ℕ) (limit : Limit) (before : List Arrival) : Type 0 where
  most_is : limit.most ≡ most
  kept_is : limit.kept ≡ recent last before

same_now : (most last : ℕ) (limit : Limit) (before : List Arrival) (now : ℕ) → Follows most last limit before → last ≤ now → recent now limit.kept ≡ recent now before
same_now most last limit before now follows later = ap (recent now) follows.kept_is ∙ recent_again last now before later

after_one : (most last : ℕ) (limit : Limit) (before : List Arrival) (arrival : Arrival) → Follows most last limit before → last ≤ arrival.at
    → Follows most arrival.at (after limit arrival) (with_arrival most before arrival)
after_one most last limit before arrival follows later = record {
  most_is = follows.most_is;
  kept_is = rw (same_now most last limit before arrival.at follows later, follows.most_is) (sym (recent_more before arrival (is_accepted most before arrival)));
}

-- the last that came, or what came before
follows_all : (most last : ℕ) (limit : Limit) (before arrivals : List Arrival) (arrival : Arrival) → Follows most last limit before → AreInOrder last (arrivals ++ arrival ∷ [])
    → is_accepted most (after_all limit arrivals).kept arrival ≡ is_accepted most (accepted most before arrivals) arrival
follows_all most last limit before [] arrival follows order =
    ap (λ kept. has_room most kept arrival) (same_now most last limit before arrival.at follows order.0)
follows_all most last limit before (first ∷ arrivals) arrival follows order =
    follows_all most first.at (after limit first) (with_arrival most before first) arrivals arrival (after_one most last limit before first follows order.0) order.1

pub follows_history : FollowsHistory
follows_history most arrivals arrival order = follows_all most 0 (limit_of most) [] arrivals arrival (record { most_is = refl; kept_is = refl }) order

-- ---- room

added_few : (most : ℕ) (kept : List Arrival) (arrival : Arrival) (b : Bool) → has_room most kept arrival ≡ b → length kept ≤ 4096
    → length (if b then kept ++ arrival ∷ [] else kept) ≤ 4096
added_few most kept arrival true is few = rw (length-append kept (arrival ∷ [])) (omega (arith, ltb-true _ _ (and_parts (nat_lt (count_of arrival.address kept) most) (nat_lt (length kept) 4096) is).1))
added_few most kept arrival false is few = few

filter_few : (p : Arrival → Bool) (arrivals : List Arrival) → length (filter p arrivals) ≤ length arrivals
filter_few p [] = omega arith
filter_few p (x ∷ xs) = elim (p x) as (λ b. length (cond b (x ∷ filter p xs) (filter p xs)) ≤ suc (length xs)) [
  | true ↦ omega (arith, filter_few p xs)
  | false ↦ omega (arith, filter_few p xs)
]

all_few : (limit : Limit) (arrivals : List Arrival) → length limit.kept ≤ 4096 → length (after_all limit arrivals).kept ≤ 4096
all_few limit [] few = few
all_few limit (arrival ∷ arrivals) few =
    all_few (after limit arrival) arrivals (added_few limit.most (recent arrival.at limit.kept) arrival (has_room limit.most (recent arrival.at limit.kept) arrival) refl
    (omega (arith, few, filter_few (is_recent arrival.at) limit.kept)))

pub room_for_all : HasRoomForAll
room_for_all most arrivals = all_few (limit_of most) arrivals (omega arith)
