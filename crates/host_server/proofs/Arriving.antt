-- Lines that came one after the other.
use Rattle.std.proofs.Common.{◌≡◌, ℕ, List, [], ◌∷◌, ◌++◌, refl, subst}
use Rattle.accept_limit.specs.declared.limit.Arrival.{Arrival}
use Rattle.session_hub.specs.Hubs.{Room, Taking}
use Rattle.host_server.specs.Serving.{Serving}
use Rattle.host_server.specs.Arriving.{Accepts, AreOf, TakesAll, TakesOne, arrival_of}

of_more : (now : ℕ) (arrivals : List Arrival) (arrival : Arrival) → AreOf now arrivals → arrival.at ≡ now → AreOf now (arrivals ++ arrival ∷ [])
of_more now [] arrival are is = (is, tt)
of_more now (first ∷ arrivals) arrival are is = (are.0, of_more now arrivals arrival are.1 is)

taken_more : {H C S : Type 0} (content : H → C) (takes : Taking S) (room : H → Room S) (arrivals : List Arrival) (arrival : Arrival) (old mid new : Serving H)
    → TakesAll content takes room arrivals old mid → TakesOne content takes room arrival mid new → TakesAll content takes room (arrivals ++ arrival ∷ []) old new
taken_more content takes room [] arrival old mid new same one = (new, subst (λ s. TakesOne content takes room arrival s new) same one, refl)
taken_more content takes room (first ∷ arrivals) arrival old mid new (between, a, b) one =
    (between, a, taken_more content takes room arrivals arrival between mid new b one)

pub accepts_none : {H C S : Type 0} (content : H → C) (takes : Taking S) (room : H → Room S) (now : ℕ) (server : Serving H) → Accepts content takes room now server server
accepts_none content takes room now server = record { arrivals = []; of_now = tt; taken = refl }

pub accepts_more : {H C S : Type 0} (content : H → C) (takes : Taking S) (room : H → Room S) (address now : ℕ) (old mid new : Serving H)
    → Accepts content takes room now old mid → TakesOne content takes room (arrival_of address now) mid new → Accepts content takes room now old new
accepts_more content takes room address now old mid new a one = record {
  arrivals = a.arrivals ++ arrival_of address now ∷ [];
  of_now = of_more now a.arrivals (arrival_of address now) a.of_now refl;
  taken = taken_more content takes room a.arrivals (arrival_of address now) old mid new a.taken one;
}
