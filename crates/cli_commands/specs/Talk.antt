-- What `talk` prints, as a function of its layouts' texts and its records, and its status.
use Rattle.std.specs.Prelude.{ℕ, ◌+◌, ◌==◌, List, [], ◌∷◌, ◌++◌, codes, length, slice_get, Option, Some, None, Result, Ok, Err, if◌then◌else◌}
use Rattle.std.specs.List.{flat_map}
use Rattle.std.specs.Fmt.{decimal}
use Rattle.ds_codec.specs.Geometry.{Sizes}
use Rattle.ds_codec.specs.Same.{same_sizes}
use Rattle.ds_codec.specs.Reading.{◌>>=◌}
use Rattle.scr_layout.specs.declared.fault.LayoutFault.{LayoutFault}
use Rattle.scr_layout.specs.Layout.{Declaration}
use Rattle.scr_check.specs.declared.finding.Finding.{Finding}
use Rattle.scr_check.specs.Walk.{Round, Stop, walk_of}
use Rattle.cli_commands.specs.declared.fault.Fault.{Fault}
use Rattle.cli_commands.specs.declared.fault.Fault.TheVariants.{TurnLayoutRefused, OtherGeometry, OtherCount}
use Rattle.cli_commands.specs.declared.status.Status.TheVariants.{Done, Findings}
use Rattle.cli_commands.specs.DemoLines.{finding_lines}
use Rattle.cli_commands.specs.LayoutText.{layout_said}
use Rattle.cli_commands.specs.Lines.{within_limit}
use Rattle.cli_commands.specs.Printed.{Printed, printed, printed_or_fault}
use Rattle.cli_commands.specs.Turns.{turns_in}

-- ---- the layouts

abbrev pub turn_layout_or_fault : ℕ → Result Declaration LayoutFault → Result Declaration Fault
turn_layout_or_fault turn (Ok layout) = Ok layout
turn_layout_or_fault turn (Err fault) = Err (TurnLayoutRefused turn fault)

-- the layout of the turn of this number
abbrev pub turn_layout_in : ℕ → List ℕ → Result Declaration Fault
turn_layout_in turn input = within_limit input >>= λ text. turn_layout_or_fault turn (layout_said text)

-- the layouts of the turns from this one on, behind those before, or the first fault
unfoldable pub layouts_from : ℕ → List Declaration → List (List ℕ) → Result (List Declaration) Fault
layouts_from turn layouts [] = Ok layouts
layouts_from turn layouts (text ∷ texts) = turn_layout_in turn text >>= λ layout. layouts_from (turn + 1) (layouts ++ layout ∷ []) texts

-- ---- one geometry

-- the first layout from this number on that is for a terminal of another geometry
unfoldable pub other_from : Sizes → ℕ → List Declaration → Option ℕ
other_from geometry turn [] = None
other_from geometry turn (layout ∷ layouts) = if same_sizes layout.geometry geometry then other_from geometry (turn + 1) layouts else Some turn

abbrev pub first_other : List Declaration → Option ℕ
first_other [] = None
first_other (layout ∷ layouts) = other_from layout.geometry 1 layouts

abbrev pub unless_other : Option ℕ → Result (Unit {0}) Fault
unless_other None = Ok tt
unless_other (Some turn) = Err (OtherGeometry turn)

-- ---- the turns

-- as many turns as layouts
abbrev pub counted : ℕ → ℕ → Result (Unit {0}) Fault
counted turns layouts = if turns == layouts then Ok tt else Err (OtherCount turns layouts)

-- the k-th layout is of the k-th turn
unfoldable pub rounds : List (List (List ℕ)) → List Declaration → List Round
rounds [] layouts = []
rounds (records ∷ turns) [] = []
rounds (records ∷ turns) (layout ∷ layouts) = record { records = records; layout = layout } ∷ rounds turns layouts

-- ---- the text

-- the lines of the findings of a turn, by its layout
abbrev pub turn_lines : Option Declaration → List Finding → List ℕ
turn_lines None findings = []
turn_lines (Some layout) findings = flat_map (finding_lines layout.entries None) findings

abbrev pub stop_text : List Declaration → Stop → List ℕ
stop_text layouts stop = codes "turn " ++ (decimal stop.turn ++ (codes "\n" ++ turn_lines (slice_get layouts stop.turn) stop.findings))

-- `yes`, or the first turn with findings, and these
abbrev pub printed_stop : List Declaration → Option Stop → Printed
printed_stop layouts None = printed (codes "yes\n") Done
printed_stop layouts (Some stop) = printed (stop_text layouts stop) Findings

-- that the numbers differ, or what stands against the turns
abbrev pub talk_told : List Declaration → List (List (List ℕ)) → Result Printed Fault
talk_told layouts turns = counted (length turns) (length layouts) >>= λ as_many. Ok (printed_stop layouts (walk_of (rounds turns layouts)))

-- the faults of the lines come first
abbrev pub talk_turns : List Declaration → List ℕ → Result Printed Fault
talk_turns layouts input = turns_in input >>= talk_told layouts

-- the faults of the layouts, in order; then that they are not of one geometry; then those of the turns
abbrev pub talk : List (List ℕ) → List ℕ → Result Printed Fault
talk texts input = do
  layouts ← layouts_from 0 [] texts
  same ← unless_other (first_other layouts)
  talk_turns layouts input

-- what `talk` prints for its layouts' texts and its records, and its status
abbrev pub printed_talk : List (List ℕ) → List ℕ → Printed
printed_talk texts input = printed_or_fault (talk texts input)
