-- The places of a tap, and how many terminals came and went.
use Rattle.std.specs.Prelude.{ℕ, ◌≡◌, Bool, nat_eq, if◌then◌else◌}
use Rattle.std.specs.declared.net.SocketAddr.{SocketAddr}

-- where terminals are listened for, and the host that is called for each; how many terminals came, and how many of them have gone;
-- and whether the host could not be reached for one of these
pub record Tally : Type 0 where
  pub listen : SocketAddr
  pub host : SocketAddr
  pub begun : ℕ
  pub gone : ℕ
  pub is_unreached : Bool

-- so many terminals are tapped; 0 is any number
abbrev pub most_of : ℕ → ℕ
most_of count = if nat_eq count 0 then 18446744073709551615 else count

-- both places are those that they were
abbrev pub ArePlaces : Tally → Tally → Type 0
ArePlaces old new = (new.listen ≡ old.listen) × (new.host ≡ old.host)
