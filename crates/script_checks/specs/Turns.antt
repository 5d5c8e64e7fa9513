-- The records that made a screen, as the turns of a dialogue whose screens all have one layout.
use Rattle.std.specs.Prelude.{ℕ, Bool, false, List, [], ◌∷◌, map, Option, if◌then◌else◌}
use Rattle.std.specs.List.{list_any}
use Rattle.scr_layout.specs.Layout.{Declaration}
use Rattle.scr_check.specs.Walk.{Round, Stop, walk_of}
use Rattle.tn_session.specs.Kept.{Kept}

-- the records up to the next that begins a turn
abbrev pub this_turn : List Kept → List (List ℕ)
this_turn [] = []
this_turn (kept ∷ others) = if kept.begins_turn then [] else kept.bytes ∷ this_turn others

-- the turns that begin among these records: each with a record that begins one
abbrev pub later_turns : List Kept → List (List (List ℕ))
later_turns [] = []
later_turns (kept ∷ others) = if kept.begins_turn then (kept.bytes ∷ this_turn others) ∷ later_turns others else later_turns others

-- The first turn begins with the first record. Without one there is a turn of no record.
abbrev pub turns_of : List Kept → List (List (List ℕ))
turns_of [] = [] ∷ []
turns_of (kept ∷ others) = (kept.bytes ∷ this_turn others) ∷ later_turns others

-- more than one turn
abbrev pub are_several : List Kept → Bool
are_several [] = false
are_several (kept ∷ others) = list_any (λ other. other.begins_turn) others

-- each turn leads to a screen of the layout
abbrev pub rounds_with : Declaration → List (List (List ℕ)) → List Round
rounds_with layout turns = map (λ records. record { records = records; layout = layout }) turns

-- the first turn against which something stands, as `check` and `talk` find it, and all that does
abbrev pub stop_of : Declaration → List Kept → Option Stop
stop_of layout kept = walk_of (rounds_with layout (turns_of kept))
