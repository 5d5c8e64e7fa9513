-- What Check says, over the bytes of the turns and the text of the layout.
use Rattle.std.specs.Prelude.{ℕ, Bool, true, false, List, [], ◌∷◌, ◌++◌, codes, map, Option, Some, None, Result, Ok, Err}
use Rattle.std.specs.Fmt.{decimal}
use Rattle.ds_codec.specs.Geometry.{Sizes}
use Rattle.scr_layout.specs.Entry.{Declared}
use Rattle.scr_layout.specs.Layout.{Declaration}
use Rattle.scr_check.specs.FindingText.{finding_text}
use Rattle.scr_check.specs.Walk.{Stop}
use Rattle.script_screens.specs.declared.lines.Outcome.TheVariants.{Failed}
use Rattle.script_screens.specs.Lines.{Said, done, failed}
use Rattle.tn_session.specs.Kept.{Kept}
use Rattle.script_checks.specs.declared.read.LayoutRefusal.{LayoutRefusal}
use Rattle.script_checks.specs.Lines.{clean}
use Rattle.script_checks.specs.Read.{layout_for, refusal_text}
use Rattle.script_checks.specs.Turns.{are_several, stop_of}

-- the number of a turn, where there are several
abbrev pub turn_texts : Bool → ℕ → List (List ℕ)
turn_texts false turn = []
turn_texts true turn = (codes "turn " ++ decimal turn) ∷ []

-- the turn and its findings, each in the text of `check`
abbrev pub stop_texts : List Declared → Bool → Stop → List (List ℕ)
stop_texts entries several stop = turn_texts several stop.turn ++ map (finding_text entries) stop.findings

abbrev pub verdict_said : List Declared → Bool → Option Stop → Said
verdict_said entries several None = done (codes "yes" ∷ [])
verdict_said entries several (Some stop) = record { texts = stop_texts entries several stop; outcome = Failed }

abbrev pub judged_said : Declaration → List Kept → Said
judged_said layout kept = verdict_said layout.entries (are_several kept) (stop_of layout kept)

-- the records are too many or too long to be kept
abbrev pub kept_said : Declaration → Option (List Kept) → Said
kept_said layout None = failed (codes "Check(): input too long")
kept_said layout (Some kept) = judged_said layout kept

abbrev pub layout_said : Option (List Kept) → Result Declaration LayoutRefusal → Said
layout_said turns (Err refusal) = failed (codes "Check(): " ++ refusal_text refusal)
layout_said turns (Ok layout) = kept_said layout turns

-- of a file that can't be read its name and the cause
abbrev pub said_of_check : Option (List Kept) → Sizes → List ℕ → Result (List ℕ) (List ℕ) → Said
said_of_check turns geometry path (Err cause) = failed (codes "Check(): " ++ (clean path ++ (codes ": " ++ clean cause)))
said_of_check turns geometry path (Ok text) = layout_said turns (layout_for geometry text)
