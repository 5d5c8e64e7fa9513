-- The keys of an action at a screen.
use Rattle.std.specs.Prelude.{ℕ, ◌-◌, ◌%◌, nat_lt, Bool, true, false, List, [], ◌∷◌, ◌++◌, length, Option, Some, None, if◌then◌else◌}
use Rattle.ds_screen.specs.declared.lock.Lock.{Lock}
use Rattle.ds_screen.specs.declared.lock.Lock.TheVariants as locks
use Rattle.ds_screen.specs.Ring.{ring_on, ring_back, ring_distance}
use Rattle.ds_screen.specs.Picture.{Picture, cell_at}
use Rattle.ds_screen.specs.Fields.{is_attribute, is_open, attribute_before}
use Rattle.ds_keys.specs.declared.key.Key.TheVariants.{Left, Right, EraseEof, Delete, Reset}
use Rattle.script_keys.specs.declared.keys.Keys.{Keys}
use Rattle.script_keys.specs.declared.keys.Keys.TheVariants.{Plain, Freeing, Erase, FieldEnd, DeleteField, MoveTo}
use Rattle.script_keys.specs.declared.run.Run.{Run}
use Rattle.script_keys.specs.Ends.{field_end}
use Rattle.script_keys.specs.Runs.{once, repeated}
use Rattle.script_keys.specs.Targets.{place_of}

abbrev pub is_error : Lock → Bool
is_error locks.Error = true
is_error locks.Free = false
is_error locks.Waiting = false

-- Reset after an operator's error
abbrev pub freed : Picture → List Run
freed v = if is_error v.lock then once Reset ∷ [] else []

-- Right, as often as it takes from the cursor to a position
abbrev pub rights_to : Picture → ℕ → Run
rights_to v place = repeated Right (ring_distance (length v.cells) v.cursor place)

-- nothing where an attribute stands right before the cursor
abbrev pub erase_runs : Picture → List Run
erase_runs v = if is_attribute (cell_at v.cells (ring_back (length v.cells) v.cursor 1)) then [] else once Left ∷ once Delete ∷ []

abbrev pub end_after : Picture → Option ℕ → List Run
end_after v None = []
end_after v (Some q) = rights_to v (field_end v.cells (ring_on (length v.cells) q 1)) ∷ []

-- behind the last character of the cursor's field; nothing where that may not be typed over, or is no field
abbrev pub field_end_runs : Picture → List Run
field_end_runs v = if is_open v.cells v.cursor then end_after v (attribute_before v.cells v.cursor) else []

abbrev pub erase_after : Picture → Option ℕ → List Run
erase_after v None = []
erase_after v (Some q) =
    if is_open v.cells v.cursor then rights_to v (ring_on (length v.cells) q 1) ∷ once EraseEof ∷ [] else once EraseEof ∷ []

-- from the field's first position on; where the field may not be typed over Erase EOF is inhibited
abbrev pub delete_field_runs : Picture → List Run
delete_field_runs v = erase_after v (attribute_before v.cells v.cursor)

abbrev pub runs_of : Picture → Keys → List Run
runs_of v (Plain key) = once key ∷ []
runs_of v (Freeing key) = freed v ++ once key ∷ []
runs_of v Erase = erase_runs v
runs_of v FieldEnd = freed v ++ field_end_runs v
runs_of v DeleteField = freed v ++ delete_field_runs v
runs_of v (MoveTo target) = rights_to v (place_of v target) ∷ []

-- to a column of the cursor's row, where the cursor stands before it
abbrev pub margin_run : Picture → ℕ → Option Run
margin_run v column =
    if nat_lt (v.cursor % v.size.cols) column then Some (repeated Right (column - v.cursor % v.size.cols)) else None
