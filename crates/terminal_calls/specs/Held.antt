-- What each call on a terminal that is held leaves: of its handle the terminal, which a null handle has none of, and a status: 0, or 1 for a record that is
-- refused; 2 where the handle is null, or there is no such key, terminal or state; 4 where a request for memory was refused. With 2 and 4 nothing changes.
use Rattle.std.specs.Prelude.{◌≡◌, ◌⊎◌, ℕ, ℤ, pos, List, Option, Some, None, length, map}
use Rattle.ds_codec.specs.Geometry.{Sizes}
use Rattle.ds_keys.specs.declared.key.Key.{Key}
use Rattle.ds_keys.specs.KeyRuns.{after_key, answer_of}
use Rattle.ds_screen.specs.Fields.{fields_of}
use Rattle.ds_screen.specs.Picture.{Picture}
use Rattle.ds_screen.specs.Records.{new_picture}
use Rattle.ds_state.specs.State.{IsState, Opens}
use Rattle.ds_state.specs.Calls.{status_of, told_by}
use Rattle.ds_terminal.specs.Terminal.{received}
use Rattle.terminal_calls.specs.declared.applied.Effect.{Effect}
use Rattle.terminal_calls.specs.declared.items.TerminalField.{TerminalField}
use Rattle.terminal_calls.specs.declared.status.TerminalStatus.{TerminalStatus}
use Rattle.terminal_calls.specs.Items.{field_told, laid}
use Rattle.terminal_calls.specs.Left.{laid_over}
use Rattle.terminal_calls.specs.Numbers.{effect_code, effect_of, key_at, pressed_code, status_told}

-- ---- a terminal is made

abbrev pub HoldsNew : Option Sizes → Option Picture → Option Picture → ℤ → Type 0
HoldsNew sizes old new status =
    ((geometry : Sizes) × (sizes ≡ Some geometry) × (status ≡ pos 0) × (new ≡ Some (new_picture geometry)))
    ⊎ (((status ≡ pos 2) × (new ≡ old) × (sizes ≡ None))
    ⊎ ((status ≡ pos 4) × (new ≡ old)))

-- the terminal whose state the bytes are
abbrev pub HoldsState : List ℕ → Option Picture → Option Picture → ℤ → Type 0
HoldsState state old new status =
    ((v : Picture) × IsState state v × (status ≡ pos 0) × (new ≡ Some v))
    ⊎ (((status ≡ pos 2) × (new ≡ old) × Opens state None)
    ⊎ ((status ≡ pos 4) × (new ≡ old)))

-- ---- keys and records, which ask for no memory

abbrev pub HoldsPressed : ℕ → ℕ → Option Picture → Option Picture → ℕ → ℕ → ℤ → Type 0
HoldsPressed kind code old new was pressed status =
    ((key : Key) × (v : Picture) × (key_at kind code ≡ Some key) × (old ≡ Some v) × (status ≡ pos 0)
    × (pressed ≡ pressed_code (answer_of v key)) × (new ≡ Some (after_key v key)))
    ⊎ ((status ≡ pos 2) × (new ≡ old) × (pressed ≡ was) × ((key_at kind code ≡ None) ⊎ (old ≡ None)))

abbrev pub HoldsApplied : List ℕ → Option Picture → Option Picture → Effect → Effect → ℤ → Type 0
HoldsApplied bytes old new was effect status =
    ((v : Picture) × (old ≡ Some v) × (effect ≡ effect_of (told_by v bytes)) × (status ≡ pos (effect_code (told_by v bytes)))
    × (new ≡ Some (received v bytes).after))
    ⊎ ((status ≡ pos 2) × (new ≡ old) × (effect ≡ was) × (old ≡ None))

-- ---- what is read

abbrev pub TellsStatus : Option Picture → TerminalStatus → TerminalStatus → ℤ → Type 0
TellsStatus held was now status =
    ((v : Picture) × (held ≡ Some v) × (status ≡ pos 0) × (now ≡ status_told (status_of v)))
    ⊎ ((status ≡ pos 2) × (now ≡ was) × (held ≡ None))

abbrev pub TellsFields : Option Picture → List TerminalField → List TerminalField → ℕ → ℤ → Type 0
TellsFields held old new needed status =
    ((v : Picture) × (held ≡ Some v) × (status ≡ pos 0) × (new ≡ laid old (map field_told (fields_of v.cells)))
    × (needed ≡ length (fields_of v.cells)))
    ⊎ ((status ≡ pos 2) × (new ≡ old) × (needed ≡ 0) × (held ≡ None))

-- bytes over the caller's buffer, as far as they fit, and how many they are
abbrev pub LaysBytes : List ℕ → List ℕ → List ℕ → ℕ → ℤ → Type 0
LaysBytes bytes old new needed status =
    ((status ≡ pos 0) × (new ≡ laid_over old bytes) × (needed ≡ length bytes))
    ⊎ ((status ≡ pos 4) × (new ≡ old) × (needed ≡ 0))

abbrev pub TellsBytes : (Picture → List ℕ) → Option Picture → List ℕ → List ℕ → ℕ → ℤ → Type 0
TellsBytes tells held old new needed status =
    ((v : Picture) × (held ≡ Some v) × LaysBytes (tells v) old new needed status)
    ⊎ ((status ≡ pos 2) × (new ≡ old) × (needed ≡ 0) × (held ≡ None))
