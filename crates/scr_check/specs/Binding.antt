-- An answer's fields, each with the layout's entry at its place.
use Rattle.std.specs.Prelude.{ℕ, Bool, ◌==◌, nat_lt, List, [], ◌∷◌, ◌++◌, length, slice_get, Option, Some, None, Result, Ok, Err, if◌then◌else◌}
use Rattle.std.specs.List.{list_any}
use Rattle.ds_codec.specs.Character.{Glyph}
use Rattle.ds_codec.specs.Reading.{◌>>=◌}
use Rattle.ds_inbound.specs.Answer.{Sent, Answer}
use Rattle.scr_layout.specs.Entry.{Declared}
use Rattle.scr_check.specs.declared.binding.BindFault.{BindFault}
use Rattle.scr_check.specs.declared.binding.BindFault.TheVariants.{NotDeclared, Longer, Twice, Lead}
use Rattle.scr_check.specs.Findings.{entry_at}

-- an entry, by its index, and the characters that were sent for it
pub record Pair : Type 0 where
  pub entry : ℕ
  pub characters : List Glyph

abbrev pub is_bound : ℕ → List Pair → Bool
is_bound index bound = list_any (λ pair. index == pair.entry) bound

-- the entry that begins at a place, with its index
abbrev pub at_index : {A : Type 0} → Result A BindFault → (Declared → Result A BindFault) → Option Declared → Result A BindFault
at_index none some None = none
at_index none some (Some entry) = some entry

abbrev pub bound_at : List Pair → Sent → ℕ → Declared → Result Pair BindFault
bound_at bound field index entry =
    if is_bound index bound then Err Twice
    else (if nat_lt entry.length (length field.characters) then Err Longer
    else Ok (record { entry = index; characters = field.characters }))

abbrev pub bound_by : List Declared → List Pair → Sent → Option ℕ → Result Pair BindFault
bound_by entries bound field None = Err NotDeclared
bound_by entries bound field (Some index) = at_index (Err NotDeclared) (bound_at bound field index) (slice_get entries index)

-- the pair of a field, behind those before it
abbrev pub bound_field : List Declared → List Pair → Sent → Result Pair BindFault
bound_field entries bound field = bound_by entries bound field (entry_at entries field.place)

-- the fields in turn, behind those before them
abbrev pub bound_from : List Declared → List Pair → List Sent → Result (List Pair) BindFault
bound_from entries bound [] = Ok bound
bound_from entries bound (field ∷ fields) = do
  pair ← bound_field entries bound field
  bound_from entries (bound ++ pair ∷ []) fields

-- no characters before the first field, then the fields
abbrev pub bound_behind : List Declared → List Glyph → List Sent → Result (List Pair) BindFault
bound_behind entries [] fields = bound_from entries [] fields
bound_behind entries (character ∷ characters) fields = Err Lead

abbrev pub bound_of : List Declared → Answer → Result (List Pair) BindFault
bound_of entries answer = bound_behind entries answer.lead answer.fields
