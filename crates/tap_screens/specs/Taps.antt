-- A tap whose screens are judged.
use Rattle.std.specs.Prelude.{ℕ, ◌≡◌, Bool, false, List, [], Option, Some, None}
use Rattle.cli_taps.specs.Taps.{Tapped}
use Rattle.script_checks.specs.Named.{Named}
use Rattle.tap_screens.specs.Watching.{Watching, watched_text, watching_after, watching_first}

-- what is asked of the screens: nothing, or their layouts, and whether they are left
pub record Asked : Type 0 where
  pub layouts : Option (List Named)
  pub leaves : Bool

-- the tap; what is asked; all that was printed; and whether memory was refused, after which nothing is printed
pub record Judged : Type 0 where
  pub tapped : Tapped
  pub asked : Option Asked
  pub printed : List ℕ
  pub is_silent : Bool

-- what is printed where this is told
abbrev pub printed_of : Option Asked → List ℕ → List ℕ
printed_of None told = told
printed_of (Some asked) told = watched_text (watching_first asked.layouts asked.leaves) told

-- What was printed is what is told of the session, with what is said of its screens.
abbrev pub PrintsAll : Judged → Type 0
PrintsAll judged = judged.is_silent ≡ false → judged.printed ≡ printed_of judged.asked judged.tapped.told

-- ---- for the code's own proofs

abbrev pub asked_of : Option Watching → Option Asked
asked_of None = None
asked_of (Some watching) = Some (record { layouts = watching.layouts; leaves = watching.leaves })

-- the watch has taken all that was told
abbrev pub IsAt : Option Watching → List ℕ → List ℕ → Type 0
IsAt None told printed = printed ≡ told
IsAt (Some watching) told printed =
    (watching ≡ watching_after (watching_first watching.layouts watching.leaves) told)
    × (printed ≡ watched_text (watching_first watching.layouts watching.leaves) told)

-- this was told, and printed as it is or with what is said of its screens
abbrev pub Takes : Option Watching → List ℕ → List ℕ → Option Watching → Type 0
Takes None told text new = (text ≡ told) × (new ≡ None)
Takes (Some watching) told text new = (text ≡ watched_text watching told) × (new ≡ Some (watching_after watching told))
