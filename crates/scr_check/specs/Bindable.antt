-- When an answer is that of a layout's screen, and what it is bound to.
use Rattle.std.specs.Prelude.{◌≡◌, ◌≤◌, ◌↔◌, nat_eq, List, [], ◌∷◌, map, length, slice_get, Some, Ok}
use Rattle.std.specs.List.{IsDistinct}
use Rattle.ds_inbound.specs.Answer.{Sent, Answer}
use Rattle.scr_layout.specs.Entry.{Declared}
use Rattle.scr_check.specs.Findings.{entry_at}
use Rattle.scr_check.specs.Binding.{Pair, bound_of}

-- the pair of a field: the entry at its place, which declares no fewer characters, and the field's characters
pub record IsPairOf (entries : List Declared) (field : Sent) (pair : Pair) : Type 0 where
  pub entry : Declared
  pub here : entry_at entries field.place ≡ Some pair.entry
  pub declared : slice_get entries pair.entry ≡ Some entry
  pub short : length field.characters ≤ entry.length
  pub same : pair.characters ≡ field.characters

-- one pair for each field, in their order
abbrev pub ArePairsOf : List Declared → List Sent → List Pair → Type 0
ArePairsOf entries [] [] = Unit {0}
ArePairsOf entries [] (pair ∷ pairs) = ⊥
ArePairsOf entries (field ∷ fields) [] = ⊥
ArePairsOf entries (field ∷ fields) (pair ∷ pairs) = IsPairOf entries field pair × ArePairsOf entries fields pairs

-- no characters stand before the first field, each field has its pair, and no entry comes twice
pub record Binds (entries : List Declared) (answer : Answer) (pairs : List Pair) : Type 0 where
  pub lead : answer.lead ≡ []
  pub paired : ArePairsOf entries answer.fields pairs
  pub once : IsDistinct nat_eq (map (λ pair. pair.entry) pairs)

-- an answer is bound exactly so
abbrev pub BindsExactly : Type 0
BindsExactly = (entries : List Declared) (answer : Answer) (pairs : List Pair) → (bound_of entries answer ≡ Ok pairs) ↔ Binds entries answer pairs
