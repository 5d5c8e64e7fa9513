-- What a call leaves that checks the screen which a terminal shows: what `check` prints of the record that draws it.
use Rattle.std.specs.Prelude.{◌≡◌, ◌⊎◌, ℕ, ℤ, pos, List, Option, Some, None, option_map}
use Rattle.hex.specs.Hex.{encode_upper}
use Rattle.cli_commands.specs.declared.output.demo.Demos.{Demos}
use Rattle.cli_commands.specs.Check.{printed_check}
use Rattle.ds_screen.specs.Picture.{Picture}
use Rattle.ds_state.specs.State.{IsState, Opens, record_of}
use Rattle.takvorn_c.specs.Left.{IsRefused, Leaves}

-- there is no terminal: nothing is written
abbrev pub IsNone : List ℕ → List ℕ → ℕ → ℤ → Type 0
IsNone old new needed status = (new ≡ old) × (needed ≡ 0) × (status ≡ pos 2)

-- of a record in hexadecimal
abbrev pub LeavesDrawn : Demos → List ℕ → Option (List ℕ) → List ℕ → List ℕ → ℕ → ℤ → Type 0
LeavesDrawn demos layout None old new needed status = IsNone old new needed status
LeavesDrawn demos layout (Some drawing) old new needed status = Leaves (printed_check demos layout drawing) old new needed status

-- the record that draws a screen, in hexadecimal
abbrev pub drawn_line : Picture → List ℕ
drawn_line v = encode_upper (record_of v)

-- of the screen of a terminal that is held; a null handle has none
abbrev pub LeavesHeld : Demos → List ℕ → Option Picture → List ℕ → List ℕ → ℕ → ℤ → Type 0
LeavesHeld demos layout held old new needed status =
    LeavesDrawn demos layout (option_map drawn_line held) old new needed status ⊎ IsRefused old new needed status

-- of the screen of a state
abbrev pub LeavesState : Demos → List ℕ → List ℕ → List ℕ → List ℕ → ℕ → ℤ → Type 0
LeavesState demos layout state old new needed status =
    ((v : Picture) × IsState state v × Leaves (printed_check demos layout (drawn_line v)) old new needed status)
    ⊎ ((Opens state None × IsNone old new needed status) ⊎ IsRefused old new needed status)
