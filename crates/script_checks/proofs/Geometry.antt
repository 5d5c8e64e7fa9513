-- Turns whose screens all have one layout.
use Rattle.std.proofs.Common.{ℕ, List, [], ◌∷◌, refl}
use Rattle.scr_layout.specs.Layout.{Declaration}
use Rattle.scr_check.specs.TalkSeen.{AreOfGeometry, HaveOneGeometry}
use Rattle.script_checks.specs.Turns.{rounds_with}

all_of : (layout : Declaration) (turns : List (List (List ℕ))) → AreOfGeometry layout.geometry (rounds_with layout turns)
all_of layout [] = tt
all_of layout (records ∷ turns) = (refl, all_of layout turns)

pub one_geometry : (layout : Declaration) (turns : List (List (List ℕ))) → HaveOneGeometry (rounds_with layout turns)
one_geometry layout [] = tt
one_geometry layout (records ∷ turns) = all_of layout turns
