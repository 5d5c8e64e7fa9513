-- What a script is worked over: what passes between the terminal and the hosts.
use Rattle.std.specs.Prelude.{◌≡◌, ◌≤◌, ℕ, Bool, true, false, List, ◌++◌, length, take, Option}
use Rattle.std.specs.Io.KnownBytes.{Appends}
use Rattle.cli_commands.specs.Streams.{AppendsFront}
use Rattle.cli_scripts.specs.declared.came.Wants.{Wants}
use Rattle.cli_scripts.specs.declared.came.Wants.TheVariants.{Line, Need}
use Rattle.cli_scripts.specs.declared.came.Wants.TheVariants as wanted
use Rattle.cli_scripts.specs.declared.world.Heard.{Heard}
use Rattle.cli_scripts.specs.declared.world.Heard.TheVariants.{Bytes, Nothing, Closed}
use Rattle.cli_scripts.specs.Desks.{Worked}
use Rattle.cli_scripts.specs.Machines.{Scripted}

-- nothing passed
abbrev pub Passes : List ℕ → List ℕ → List ℕ → List ℕ → Type 0
Passes received sent received_new sent_new = (received_new ≡ received) × (sent_new ≡ sent)

-- a read gave these bytes at the front of a buffer, or none
abbrev pub Gives : List ℕ → List ℕ → List ℕ → Heard → Type 0
Gives old new piece (Bytes count) = (count ≤ length piece) × (new ≡ old ++ take count piece)
Gives old new piece Nothing = new ≡ old
Gives old new piece Closed = new ≡ old

-- what was due went to the hosts, in order and once, and what they gave was heard so
pub record Exchanged (old new : Worked) (sent sent_new received received_new : List ℕ) : Type 0 where
  pub given : List ℕ
  pub heard : List ℕ
  pub gone : new.gone ≡ old.gone ++ given
  pub went : sent_new ≡ sent ++ given
  pub took : new.heard ≡ old.heard ++ heard
  pub came : received_new ≡ received ++ heard

-- so much was heard and came, and nothing went
pub record Took (old new : Worked) (sent sent_new received received_new : List ℕ) : Type 0 where
  pub heard : List ℕ
  pub gone : new.gone ≡ old.gone
  pub went : sent_new ≡ sent
  pub took : new.heard ≡ old.heard ++ heard
  pub came : received_new ≡ received ++ heard
  pub judged : new.judged ≡ old.judged
  pub collects : new.collects ≡ old.collects

-- the answers that were handed out were written, or a front of them where a write failed
abbrev pub Tells : Scripted → Scripted → Option (List ℕ) → Option (List ℕ) → Type 0
Tells old new written written_new =
    (text : List ℕ) × (new.telling.gone ≡ old.telling.gone ++ text) × AppendsFront written written_new text

-- and all of them
abbrev pub TellsAll : Scripted → Scripted → Option (List ℕ) → Option (List ℕ) → Type 0
TellsAll old new written written_new =
    (text : List ℕ) × (new.telling.gone ≡ old.telling.gone ++ text) × Appends written written_new text

-- whether something is needed for the line that is under way
abbrev pub is_need : Wants → Bool
is_need Line = false
is_need (Need need) = true
is_need wanted.Nothing = false
