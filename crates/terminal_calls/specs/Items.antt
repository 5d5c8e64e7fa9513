-- Fields as C sees them.
use Rattle.std.specs.Prelude.{◌≡◌, ◌⊎◌, ℕ, ℤ, pos, List, ◌++◌, None, take, drop, length, map}
use Rattle.ds_screen.specs.declared.field.FieldAt.{FieldAt}
use Rattle.ds_screen.specs.Fields.{fields_of}
use Rattle.ds_screen.specs.Picture.{Picture}
use Rattle.ds_state.specs.State.{IsState, Opens}
use Rattle.terminal_calls.specs.declared.items.TerminalField.{TerminalField}

abbrev pub field_told : FieldAt → TerminalField
field_told field = record { attribute = field.at; first = field.place; length = field.length; bits = field.attr }

-- what fits is written from the buffer's first item on, and the rest of the buffer stays
abbrev pub laid : {A : Type 0} → List A → List A → List A
laid old items = take (length old) items ++ drop (length items) old

-- the fields of the picture whose state the bytes are
abbrev pub LeavesFields : List ℕ → List TerminalField → List TerminalField → ℕ → ℤ → Type 0
LeavesFields state old new needed status =
    ((v : Picture) × IsState state v × (status ≡ pos 0) × (new ≡ laid old (map field_told (fields_of v.cells))) × (needed ≡ length (fields_of v.cells)))
    ⊎ (((status ≡ pos 2) × (new ≡ old) × (needed ≡ 0) × Opens state None)
    ⊎ ((status ≡ pos 4) × (new ≡ old) × (needed ≡ 0)))
