-- What stands against a screen of a suite, without the findings that are accepted.
use Rattle.std.specs.Prelude.{ℕ, Bool, true, false, not, ◌&&◌, ◌||◌, ◌==◌, nat_eq, bytes_eq, codes, List, [], ◌∷◌, ◌++◌, length, map, if◌then◌else◌}
use Rattle.std.specs.List.{filter, flat_map, list_any, starts_with, ends_with}
use Rattle.std.specs.Str.{is_utf8}
use Rattle.std.specs.String.{string_bytes}
use Rattle.cli_commands.specs.declared.status.Status.{Status}
use Rattle.cli_commands.specs.declared.status.Status.TheVariants.{Done, Findings, BadInput, Failed, NoMemory}
use Rattle.cli_commands.specs.Lines.{lines_in}
use Rattle.cli_commands.specs.Printed.{Printed}
use Rattle.cli_suites.specs.declared.settled.Settled as held
use Rattle.cli_suites.specs.declared.settled.Verdict.{Verdict}
use Rattle.cli_suites.specs.declared.settled.Verdict.TheVariants.{Yes, No, Refused}
use Rattle.cli_suites.specs.Count.{plus}
use Rattle.cli_suites.specs.Job.{Known}
use Rattle.cli_suites.specs.Manifest.{has_known}

-- what is said of a screen, what stands against it, how many findings that are, and the accepted ones that come
pub record Settled : Type 0 where
  pub verdict : Verdict
  pub lines : List (List ℕ)
  pub findings : ℕ
  pub came : List (List ℕ)

abbrev pub settled_seen : held.Settled → Settled
settled_seen s =
    record { verdict = s.verdict; lines = map string_bytes s.lines.items; findings = s.findings; came = map string_bytes s.came.items }

-- ---- lines

-- those that are text, as all lines of a text are
abbrev pub text_lines : List (List ℕ) → List (List ℕ)
text_lines lines = filter is_utf8 lines

-- it stands under a finding
abbrev pub is_below : List ℕ → Bool
is_below line = starts_with nat_eq line (codes "  ")

-- it tells the turn that has the findings, or a map that is good
abbrev pub is_head : List ℕ → Bool
is_head line = starts_with nat_eq line (codes "turn ") || ends_with nat_eq line (codes ": yes")

abbrev pub is_finding : List ℕ → Bool
is_finding line = not (is_below line) && not (is_head line)

-- behind so many
abbrev pub counted : ℕ → List (List ℕ) → ℕ
counted count [] = count
counted count (line ∷ lines) = counted (if is_finding line then plus count 1 else count) lines

-- ---- what is accepted

-- an accepted finding of the screen, or what stands under one
abbrev pub drops : List ℕ → List Known → Bool → List ℕ → Bool
drops name accepted before line = if is_below line then before else has_known name line accepted

abbrev pub unless : Bool → List ℕ → List (List ℕ)
unless true line = []
unless false line = line ∷ []

-- the lines after one that is left out, or isn't
abbrev pub kept : List ℕ → List Known → Bool → List (List ℕ) → List (List ℕ)
kept name accepted before [] = []
kept name accepted before (line ∷ lines) =
    unless (drops name accepted before line) line ++ kept name accepted (drops name accepted before line) lines

abbrev pub has_line : List (List ℕ) → List ℕ → Bool
has_line lines text = list_any (λ line. bytes_eq line text) lines

-- it is of this screen, and among its lines
abbrev pub comes : List ℕ → List (List ℕ) → Known → Bool
comes name lines known = bytes_eq known.screen name && has_line lines known.finding

-- it is of this screen, and isn't
abbrev pub is_stale : List ℕ → List (List ℕ) → Known → Bool
is_stale name lines known = bytes_eq known.screen name && not (has_line lines known.finding)

abbrev pub stale_line : Known → List ℕ
stale_line known = codes "accepted finding does not come: " ++ known.finding

abbrev pub stale_in : List ℕ → List (List ℕ) → Known → List (List ℕ)
stale_in name lines known = if is_stale name lines known then stale_line known ∷ [] else []

abbrev pub stale_from : List ℕ → List (List ℕ) → List Known → List (List ℕ)
stale_from name lines accepted = flat_map (stale_in name lines) accepted

-- the finding and its reason
abbrev pub came_line : Known → List ℕ
came_line known = known.finding ++ (codes " (" ++ (known.reason ++ codes ")"))

abbrev pub came_in : List ℕ → List (List ℕ) → Known → List (List ℕ)
came_in name lines known = if comes name lines known then came_line known ∷ [] else []

abbrev pub came_from : List ℕ → List (List ℕ) → List Known → List (List ℕ)
came_from name lines accepted = flat_map (came_in name lines) accepted

-- ---- the screen

-- without a finding nothing is left of the lines
abbrev pub settled_by : ℕ → List (List ℕ) → List (List ℕ) → Settled
settled_by findings lines came =
    if findings == 0 then record { verdict = Yes; lines = []; findings = findings; came = came }
    else record { verdict = No; lines = lines; findings = findings; came = came }

abbrev pub settled_of : List (List ℕ) → List (List ℕ) → List (List ℕ) → Settled
settled_of left stale came = settled_by (plus (counted 0 left) (length stale)) (left ++ stale) came

-- the lines without what is accepted, and then what is accepted and doesn't come
abbrev pub settled_lines : List ℕ → List Known → List (List ℕ) → Settled
settled_lines name accepted lines = settled_of (kept name accepted false lines) (stale_from name lines accepted) (came_from name lines accepted)

abbrev pub refused : List (List ℕ) → Settled
refused lines = record { verdict = Refused; lines = lines; findings = 0; came = [] }

abbrev pub settled_answer : List ℕ → List Known → Status → List ℕ → Settled
settled_answer name accepted Done text = settled_lines name accepted []
settled_answer name accepted Findings text = settled_lines name accepted (text_lines (lines_in text))
settled_answer name accepted BadInput text = refused (text_lines (lines_in text))
settled_answer name accepted Failed text = refused (text_lines (lines_in text))
settled_answer name accepted NoMemory text = refused (text_lines (lines_in text))

-- by what the command of a screen answers
abbrev pub settle : List ℕ → List Known → Printed → Settled
settle name accepted answer = settled_answer name accepted answer.status answer.text
