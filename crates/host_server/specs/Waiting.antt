-- What waits to be written.
use Rattle.std.specs.Prelude.{ℕ, ◌≡◌, ◌+◌, ◌⊎◌, nat_le, Bool, true, false, List, [], ◌++◌, length, if◌then◌else◌}
use Rattle.std.specs.Io.KnownBytes.{Appends}
use Rattle.cli_commands.specs.Causes.{HasFailed}
use Rattle.cli_sessions.specs.Printing.{Printing}

-- the bytes that wait; and whether a text was left out, after which none is taken
pub record Waiting : Type 0 where
  pub bytes : List ℕ
  pub cut : Bool

abbrev pub nothing_waits : Waiting
nothing_waits = record { bytes = []; cut = false }

-- so many bytes may wait
abbrev pub most_waiting : ℕ
most_waiting = 16777216

-- a text waits after those that do; or it is too much, and left out
abbrev pub added : Waiting → List ℕ → Waiting
added waiting text =
    if waiting.cut then waiting
    else (if nat_le (length waiting.bytes + length text) most_waiting then record waiting { bytes = waiting.bytes ++ text }
    else record waiting { cut = true })

-- the others still wait; or a write failed, and nothing does any more
abbrev pub IsLeft : Printing → Printing → List ℕ → Waiting → Waiting → Type 0
IsLeft before after rest old new =
    ((new ≡ record old { bytes = rest }) × (after.failures ≡ before.failures))
    ⊎ ((new ≡ record { bytes = []; cut = true }) × HasFailed before.failures after.failures)

-- The first of the bytes that waited were written, and no others.
pub record Passes (before after : Printing) (old new : Waiting) : Type 0 where
  pub gone : List ℕ
  pub rest : List ℕ
  pub waited : old.bytes ≡ gone ++ rest
  pub written : Appends before.written after.written gone
  pub left : IsLeft before after rest old new
