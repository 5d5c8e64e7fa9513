-- A walk that never stops, turn by turn.
use Rattle.std.proofs.Common.{◌≡◌, ℕ, List, [], ◌∷◌, ◌++◌, Option, None, Result, Ok, Err, refl, sym, ◌∙◌, ap}
use Rattle.ds_codec.specs.Geometry.{Sizes}
use Rattle.ds_screen.specs.Picture.{Picture}
use Rattle.scr_layout.specs.Layout.{Declaration}
use Rattle.scr_check.specs.declared.finding.Finding.{Finding}
use Rattle.scr_check.specs.Findings.{findings_of, told}
use Rattle.scr_check.specs.Walk.{Round, Stop, later_told, stops_or, goes_on}
use Rattle.scr_check.specs.TalkSeen.{AreOfGeometry}
use Rattle.scr_check.proofs.UnderCells.{all_same}
use Rattle.scr_check.proofs.UnderOrders.{IsBelow}
use Rattle.scr_check.proofs.WalkLaws.{told_none}

-- ---- a walk that never stops
stops_never : (turn : ℕ) (findings : List Finding) (others : Option Stop) → stops_or turn findings others ≡ None → (findings ≡ []) × (others ≡ None)
stops_never turn [] others none = (refl, none)
stops_never turn (finding ∷ findings) others none = absurd cc

first_none : (layout : Declaration) (r : Result Picture Finding) → told layout r ≡ [] → (v : Picture) × (r ≡ Ok v) × (findings_of layout v ≡ [])
first_none layout (Ok v) none = (v, refl, none)
first_none layout (Err finding) none = absurd cc

-- nothing stands against the turn, and the walk goes on
pub record GoesOn (layout : Declaration) (r : Result Picture Finding) (others : Picture → Option Stop) : Type 0 where
  pub next : Picture
  pub opens : r ≡ Ok next
  pub clean : findings_of layout next ≡ []
  pub later : others next ≡ None

pub later_goes : (turn : ℕ) (layout : Declaration) (r : Result Picture Finding) (others : Picture → Option Stop) → stops_or turn (later_told layout r) (goes_on others r) ≡ None → GoesOn layout r others
later_goes turn layout r others none =
    let parts = stops_never turn (later_told layout r) (goes_on others r) none in
    let found = told_none layout r parts.0 in
    record { next = found.0; opens = found.1; clean = found.2; later = sym (ap (goes_on others) found.1) ∙ parts.1 }

pub first_goes : (layout : Declaration) (r : Result Picture Finding) (others : Picture → Option Stop) → stops_or 0 (told layout r) (goes_on others r) ≡ None → GoesOn layout r others
first_goes layout r others none =
    let parts = stops_never 0 (told layout r) (goes_on others r) none in
    let found = first_none layout r parts.0 in
    record { next = found.0; opens = found.1; clean = found.2; later = sym (ap (goes_on others) found.1) ∙ parts.1 }

-- ---- the later turns
pub member_of : (geometry : Sizes) (early : List Round) (round : Round) (late : List Round) → AreOfGeometry geometry (early ++ round ∷ late) → round.layout.geometry ≡ geometry
member_of geometry [] round late all = all.0
member_of geometry (first ∷ early) round late all = member_of geometry early round late all.1

pub below_self : (v : Picture) → IsBelow v v
below_self v = record { geometry = refl; size = refl; lock = refl; cells = all_same v.cells }

pub heads_same : (a b : Round) (rest others : List Round) → a ∷ rest ≡ b ∷ others → (a ≡ b) × (rest ≡ others)
heads_same a b rest others e = (cc, cc)

pub no_cut : (early : List Round) (round : Round) (late : List Round) → [] ≡ early ++ round ∷ late → ⊥
no_cut [] round late e = cc
no_cut (first ∷ early) round late e = cc
