-- What each call leaves: the status 0, or 1 for a record that is refused, with what is due; 2 where the bytes are no state or there is no
-- such key or terminal; 4 where a request for memory was refused. With 2 and 4 nothing changes.
use Rattle.std.specs.Prelude.{◌≡◌, ◌≢◌, ◌⊎◌, ℕ, ℤ, pos, List, ◌++◌, Option, Some, None, take, drop, length}
use Rattle.ds_codec.specs.Geometry.{Sizes}
use Rattle.ds_keys.specs.declared.key.Key.{Key}
use Rattle.ds_keys.specs.KeyRuns.{after_key, answer_of}
use Rattle.ds_screen.specs.Picture.{Picture}
use Rattle.ds_screen.specs.Records.{new_picture}
use Rattle.ds_state.specs.State.{IsState, Opens, most_bytes}
use Rattle.ds_state.specs.Calls.{status_of, told_by}
use Rattle.ds_terminal.specs.Terminal.{received}
use Rattle.terminal_calls.specs.declared.applied.Effect.{Effect}
use Rattle.terminal_calls.specs.declared.status.TerminalStatus.{TerminalStatus}
use Rattle.terminal_calls.specs.Numbers.{effect_code, effect_of, key_at, pressed_code, status_told}

-- ---- a new terminal

abbrev pub LeavesNew : Option Sizes → List ℕ → List ℕ → ℤ → Type 0
LeavesNew sizes old new status =
    ((geometry : Sizes) × (sizes ≡ Some geometry) × (status ≡ pos 0) × IsState new (new_picture geometry))
    ⊎ (((status ≡ pos 2) × (new ≡ old) × ((geometry : Sizes) → sizes ≡ Some geometry → length old ≢ most_bytes geometry))
    ⊎ ((status ≡ pos 4) × (new ≡ old)))

-- ---- keys and records

-- the key leads from the old state to the new one
abbrev pub IsPressed : ℕ → ℕ → List ℕ → List ℕ → ℕ → Type 0
IsPressed kind code old new pressed =
    (key : Key) × (v : Picture) × (key_at kind code ≡ Some key) × IsState old v × (pressed ≡ pressed_code (answer_of v key))
    × IsState new (after_key v key)

abbrev pub LeavesPressed : ℕ → ℕ → List ℕ → List ℕ → ℕ → ℕ → ℤ → Type 0
LeavesPressed kind code old new was pressed status =
    ((status ≡ pos 0) × IsPressed kind code old new pressed)
    ⊎ (((status ≡ pos 2) × (new ≡ old) × (pressed ≡ was) × ((key_at kind code ≡ None) ⊎ Opens old None))
    ⊎ ((status ≡ pos 4) × (new ≡ old) × (pressed ≡ was)))

abbrev pub IsApplied : List ℕ → List ℕ → List ℕ → Effect → ℤ → Type 0
IsApplied bytes old new effect status =
    (v : Picture) × IsState old v × (effect ≡ effect_of (told_by v bytes)) × (status ≡ pos (effect_code (told_by v bytes)))
    × IsState new (received v bytes).after

abbrev pub LeavesEffect : List ℕ → List ℕ → List ℕ → Effect → Effect → ℤ → Type 0
LeavesEffect bytes old new was effect status =
    IsApplied bytes old new effect status
    ⊎ (((status ≡ pos 2) × (new ≡ old) × (effect ≡ was) × Opens old None)
    ⊎ ((status ≡ pos 4) × (new ≡ old) × (effect ≡ was)))

-- ---- what is read

abbrev pub LeavesStatus : List ℕ → TerminalStatus → TerminalStatus → ℤ → Type 0
LeavesStatus state was now status =
    ((v : Picture) × IsState state v × (status ≡ pos 0) × (now ≡ status_told (status_of v)))
    ⊎ (((status ≡ pos 2) × (now ≡ was) × Opens state None)
    ⊎ ((status ≡ pos 4) × (now ≡ was)))

-- what fits is written from the buffer's first byte on, and the rest of the buffer stays
abbrev pub laid_over : List ℕ → List ℕ → List ℕ
laid_over old bytes = take (length old) bytes ++ drop (length bytes) old

abbrev pub LeavesBytes : (Picture → List ℕ) → List ℕ → List ℕ → List ℕ → ℕ → ℤ → Type 0
LeavesBytes tells state old new needed status =
    ((v : Picture) × IsState state v × (status ≡ pos 0) × (new ≡ laid_over old (tells v)) × (needed ≡ length (tells v)))
    ⊎ (((status ≡ pos 2) × (new ≡ old) × (needed ≡ 0) × Opens state None)
    ⊎ ((status ≡ pos 4) × (new ≡ old) × (needed ≡ 0)))
