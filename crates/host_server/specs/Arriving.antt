-- Lines that come: each is asked of the limit, and a terminal is opened of each that is admitted.
use Rattle.std.specs.Prelude.{ℕ, ◌≡◌, ◌<◌, ◌≤◌, ◌⊎◌, Bool, true, false, List, [], ◌∷◌, Option, Some, None}
use Rattle.accept_limit.specs.declared.limit.Arrival.{Arrival}
use Rattle.accept_limit.specs.Arrivals.{after, forgotten, is_accepted}
use Rattle.session_hub.specs.Hubs.{At, Breaks, Room, Steps, Taking}
use Rattle.cli_hosts.specs.Hosts.{Opened}
use Rattle.host_server.specs.Serving.{Serving, most_of}

abbrev pub arrival_of : ℕ → ℕ → Arrival
arrival_of address now = record { address = address; at = now }

-- ---- the limit

-- the limit says whether it is admitted; where memory was refused for one that would be, it isn't
abbrev pub IsAsked : {H : Type 0} → Serving H → Arrival → Bool → Serving H → Type 0
IsAsked old arrival admitted new =
    ((admitted ≡ is_accepted old.limit.most old.limit.kept arrival) × (new ≡ record old { limit = after old.limit arrival }))
    ⊎ ((is_accepted old.limit.most old.limit.kept arrival ≡ true) × (admitted ≡ false)
    × (new ≡ record old { limit = forgotten old.limit arrival.at; refused = true }))

-- where there is no limit each is admitted
pub record Admits {H : Type 0} (old : Serving H) (arrival : Arrival) (admitted : Bool) (new : Serving H) : Type 0 where
  pub free : old.asked.per_second ≡ 0 → (admitted ≡ true) × (new ≡ old)
  pub limited : 0 < old.asked.per_second → IsAsked old arrival admitted new

-- ---- what is opened

-- hosts in which the line of a token broke
abbrev pub BreaksOff : {H C S : Type 0} → (H → C) → Taking S → (H → Room S) → ℕ → H → H → Type 0
BreaksOff content takes room token old new =
    (content new ≡ content old) × Steps takes (room old).limits (At token Breaks) (room old).seats (room new).seats

-- it has a token, and its line may break at once; or memory was refused
abbrev pub IsOpened : {H C S : Type 0} → (H → C) → Taking S → (H → Room S) → Serving H → H → Option ℕ → Serving H → Type 0
IsOpened {H = H} content takes room old opened (Some token) new =
    (hosts : H) × ((hosts ≡ opened) ⊎ BreaksOff content takes room token opened hosts) × (new ≡ record old { hosts = hosts })
IsOpened content takes room old opened None new = new ≡ record old { hosts = opened; refused = true }

pub record OpensOne {H C S : Type 0} (content : H → C) (takes : Taking S) (room : H → Room S) (now : ℕ) (old new : Serving H) : Type 0 where
  pub hosts : H
  pub token : Option ℕ
  pub served : content hosts ≡ content old.hosts
  pub opened : Opened takes (room old.hosts) now (room hosts) token
  pub after_it : IsOpened content takes room old hosts token new

-- once all came none is opened
pub record Opens {H C S : Type 0} (content : H → C) (takes : Taking S) (room : H → Room S) (now : ℕ) (old new : Serving H) : Type 0 where
  pub full : most_of old.asked.count ≤ (room old.hosts).came → new ≡ old
  pub one : (room old.hosts).came < most_of old.asked.count → OpensOne content takes room now old new

-- ---- lines in turn

-- what isn't admitted opens nothing
abbrev pub OpensIf : {H C S : Type 0} → (H → C) → Taking S → (H → Room S) → ℕ → Bool → Serving H → Serving H → Type 0
OpensIf content takes room now true old new = Opens content takes room now old new
OpensIf content takes room now false old new = new ≡ old

pub record TakesOne {H C S : Type 0} (content : H → C) (takes : Taking S) (room : H → Room S) (arrival : Arrival) (old new : Serving H) : Type 0 where
  pub admitted : Bool
  pub asked : Serving H
  pub admits : Admits old arrival admitted asked
  pub opens : OpensIf content takes room arrival.at admitted asked new

abbrev pub TakesAll : {H C S : Type 0} → (H → C) → Taking S → (H → Room S) → List Arrival → Serving H → Serving H → Type 0
TakesAll content takes room [] old new = new ≡ old
TakesAll {H = H} content takes room (arrival ∷ arrivals) old new =
    (mid : Serving H) × TakesOne content takes room arrival old mid × TakesAll content takes room arrivals mid new

-- at one time
abbrev pub AreOf : ℕ → List Arrival → Type 0
AreOf now [] = Unit {0}
AreOf now (arrival ∷ arrivals) = (arrival.at ≡ now) × AreOf now arrivals

-- Lines came, each now, and were taken in turn.
pub record Accepts {H C S : Type 0} (content : H → C) (takes : Taking S) (room : H → Room S) (now : ℕ) (old new : Serving H) : Type 0 where
  pub arrivals : List Arrival
  pub of_now : AreOf now arrivals
  pub taken : TakesAll content takes room arrivals old new
