-- Lines of an answer.
use Rattle.std.specs.Prelude.{◌≡◌, ℕ, List, [], ◌∷◌, ◌++◌, codes}
use Rattle.std.specs.List.{flat_map}
use Rattle.script_screens.specs.declared.lines.Outcome.{Outcome}
use Rattle.script_screens.specs.declared.lines.Outcome.TheVariants.{Done, Failed}

abbrev pub data_line : List ℕ → List ℕ
data_line text = codes "data: " ++ (text ++ codes "\n")

abbrev pub data_lines : List (List ℕ) → List ℕ
data_lines texts = flat_map data_line texts

-- the texts of the data lines that an action says, and how it ends
pub record Said : Type 0 where
  pub texts : List (List ℕ)
  pub outcome : Outcome

abbrev pub done : List (List ℕ) → Said
done texts = record { texts = texts; outcome = Done }

-- a fault is one data line
abbrev pub failed : List ℕ → Said
failed text = record { texts = text ∷ []; outcome = Failed }

-- what was added to an answer, and how the action ended
abbrev pub Says : List ℕ → List ℕ → Outcome → Said → Type 0
Says before after outcome said = (after ≡ before ++ data_lines said.texts) × (outcome ≡ said.outcome)
