-- Laws on what actions press.
use Rattle.std.specs.Prelude.{◌≡◌, ℕ, ◌<◌, Bool, true, false, [], ◌∷◌, length}
use Rattle.ds_screen.specs.declared.lock.Lock.{Lock}
use Rattle.ds_screen.specs.declared.lock.Lock.TheVariants.{Free, Waiting, Error}
use Rattle.ds_screen.specs.Picture.{Picture}
use Rattle.ds_keys.specs.declared.key.Key.{Key}
use Rattle.ds_keys.specs.declared.key.Key.TheVariants.{Attention}
use Rattle.ds_keys.specs.KeyRuns.{is_quiet}
use Rattle.script_keys.specs.declared.keys.Keys.{Keys}
use Rattle.script_keys.specs.declared.keys.Keys.TheVariants.{Plain, Freeing, Erase, FieldEnd, DeleteField, MoveTo}
use Rattle.script_keys.specs.Fill.{typed_runs}
use Rattle.script_keys.specs.Runs.{keys_of, after_runs}
use Rattle.script_keys.specs.Steps.{rights_to, runs_of}

-- on a free keyboard the cursor goes there, and nothing else changes
abbrev pub MovesFree : Type 0
MovesFree =
    (v : Picture) (place : ℕ) → v.lock ≡ Free → v.cursor < length v.cells → place < length v.cells
    → after_runs v (rights_to v place ∷ []) ≡ record v { cursor = place }

abbrev pub is_free : Lock → Bool
is_free Free = true
is_free Waiting = false
is_free Error = false

-- on one that isn't, nothing changes
abbrev pub MovesNothing : Type 0
MovesNothing = (v : Picture) (place : ℕ) → is_free v.lock ≡ false → after_runs v (rights_to v place ∷ []) ≡ v

abbrev pub is_attention : Key → Bool
is_attention (Attention aid) = true
is_attention key = false

-- whether an action is a key that sends
abbrev pub sends : Keys → Bool
sends (Plain key) = is_attention key
sends (Freeing key) = is_attention key
sends Erase = false
sends FieldEnd = false
sends DeleteField = false
sends (MoveTo target) = false

-- The keys that type a character send nothing, whatever the terminal shows when they are pressed,
abbrev pub TypesQuietly : Type 0
TypesQuietly = (v w : Picture) (fills : Bool) (code : ℕ) → is_quiet w (keys_of (typed_runs v fills code)) ≡ true

-- and so do those of every action that is no key that sends.
abbrev pub PressesQuietly : Type 0
PressesQuietly = (v w : Picture) (keys : Keys) → sends keys ≡ false → is_quiet w (keys_of (runs_of v keys)) ≡ true
