-- How a stream is cut in pieces doesn't matter.
use Rattle.std.specs.Prelude.{ℕ, ◌≡◌, List, [], ◌∷◌, ◌++◌, codes, Some}
use Rattle.std.specs.List.{flat_map}
use Rattle.tn_cores.specs.declared.device.ScreenModel.{ScreenModel}
use Rattle.tn_cores.specs.Devices.{sizes_of}
use Rattle.tn_traces.specs.declared.line.Side.{Side}
use Rattle.cli_commands.specs.Sizes.{geometry_told}
use Rattle.cli_traces.specs.Device.{size_words}
use Rattle.cli_traces.specs.declared.asked.Asked.{Asked}
use Rattle.cli_traces.specs.Following.{Following, Course, goes, AddsThen, AddsBytes, IsAll, EndsEarly}

-- Pieces of what a side sent, one after the other, add this text, and lead here; they end at the first that ends them. All
-- comments name the line of this number.
abbrev pub AddPieces : Asked → ℕ → Side → Following → List (List ℕ) → List ℕ → Course → Type 0
AddPieces asked number side following [] text course = (text ≡ []) × (course ≡ goes following)
AddPieces asked number side following (piece ∷ pieces) text course =
    AddsThen (AddsBytes asked number side following piece) (λ next. AddPieces asked number side next pieces) text course

-- pieces add what the whole adds, and lead where it leads
abbrev pub PiecesAddWhole : Type 0
PiecesAddWhole =
    (asked : Asked) (number : ℕ) (side : Side) (following : Following) (pieces : List (List ℕ)) (text : List ℕ) (course : Course)
    → AddPieces asked number side following pieces text course → AddsBytes asked number side following (flat_map (λ piece. piece) pieces) text course

-- a piece adds one text, and leads to one place
abbrev pub AddsOneText : Type 0
AddsOneText =
    (asked : Asked) (number : ℕ) (side : Side) (following : Following) (piece text other : List ℕ) (course course' : Course)
    → AddsBytes asked number side following piece text course → AddsBytes asked number side following piece other course'
    → (text ≡ other) × (course ≡ course')

-- so the same stream, cut in other places, adds the same text
abbrev pub CutsAgree : Type 0
CutsAgree =
    (asked : Asked) (number : ℕ) (side : Side) (following : Following) (pieces others : List (List ℕ)) (text other : List ℕ) (course course' : Course)
    → flat_map (λ piece. piece) pieces ≡ flat_map (λ piece. piece) others
    → AddPieces asked number side following pieces text course → AddPieces asked number side following others other course'
    → (text ≡ other) × (course ≡ course')

-- ---- sizes

-- every command reads the line of a model's sizes as the sizes of that model's devices
abbrev pub SizesAreRead : Type 0
SizesAreRead = (model : ScreenModel) → geometry_told (codes "size " ++ size_words model) ≡ Some (sizes_of model)

-- ---- lines

-- the text of all lines is one
abbrev pub AllHaveOneText : Type 0
AllHaveOneText = (asked : Asked) (lines : List (List ℕ)) (text other : List ℕ) → IsAll asked lines text → IsAll asked lines other → text ≡ other

-- so is that up to a line which ends them, and then there is none of all lines
abbrev pub EndsHaveOneText : Type 0
EndsHaveOneText = (asked : Asked) (lines : List (List ℕ)) (text other : List ℕ) → EndsEarly asked lines text → EndsEarly asked lines other → text ≡ other

abbrev pub EndsAreNotAll : Type 0
EndsAreNotAll = (asked : Asked) (lines : List (List ℕ)) (text other : List ℕ) → EndsEarly asked lines text → IsAll asked lines other → ⊥
