-- The turns of a dialogue as the program holds them, and what stands against one.
use Rattle.std.specs.Prelude.{◌≡◌, ℕ, List, [], ◌∷◌, map, Option, Some, None, Result, Ok, Err}
use Rattle.ds_codec.specs.declared.size.Size.{Size}
use Rattle.ds_codec.specs.Geometry.{Sizes}
use Rattle.ds_screen.specs.Picture.{Picture}
use Rattle.ds_screen.specs.Outline.{Outlined, IsOutlineOf}
use Rattle.scr_layout.specs.Layout.{Declaration}
use Rattle.scr_check.specs.declared.finding.Finding.{Finding}
use Rattle.scr_check.specs.declared.talk.Turn.{Turn}
use Rattle.scr_check.specs.declared.talk.TalkVerdict.{TalkVerdict}
use Rattle.scr_check.specs.declared.talk.TalkVerdict.TheVariants.{Yes, No}
use Rattle.scr_check.specs.Walk.{Round, Stop, opened_later, later_told}

abbrev pub round_of : Turn → Round
round_of turn = record { records = map (λ bytes. bytes.now) turn.records.now; layout = turn.layout.now }

abbrev pub rounds_of : List Turn → List Round
rounds_of turns = map round_of turns

-- the turn at which a verdict stops
abbrev pub stop_in : TalkVerdict → Option Stop
stop_in Yes = None
stop_in (No turn findings) = Some (record { turn = turn; findings = findings.items })

-- the layouts are of this geometry
abbrev pub AreOfGeometry : Sizes → List Round → Type 0
AreOfGeometry geometry [] = Unit {0}
AreOfGeometry geometry (round ∷ rounds) = (round.layout.geometry ≡ geometry) × AreOfGeometry geometry rounds

-- all layouts are of one geometry: an operator's terminal does not change between turns
abbrev pub HaveOneGeometry : List Round → Type 0
HaveOneGeometry [] = Unit {0}
HaveOneGeometry (round ∷ rounds) = AreOfGeometry round.layout.geometry rounds

-- ---- for the code's own proofs: what a later turn leaves of an outline

abbrev pub OpensLater : Outlined → Outlined → List (List ℕ) → Size → Result (Unit {0}) Finding → Type 0
OpensLater old new records size (Ok done) =
    (v : Picture) → IsOutlineOf old v → (layout : Declaration) → layout.size ≡ size
    → (w : Picture) × (opened_later v layout records ≡ Ok w) × IsOutlineOf new w
OpensLater old new records size (Err finding) =
    (v : Picture) → IsOutlineOf old v → (layout : Declaration) → layout.size ≡ size → opened_later v layout records ≡ Err finding

-- the findings are all that is told of the turn, and where there are none the outline is that of the picture it left
abbrev pub Judges : Outlined → Outlined → List (List ℕ) → Declaration → List Finding → Type 0
Judges old new records layout findings =
    (v : Picture) → IsOutlineOf old v
    → (findings ≡ later_told layout (opened_later v layout records))
    × (findings ≡ [] → (w : Picture) × (opened_later v layout records ≡ Ok w) × IsOutlineOf new w)
