-- Keys that send nothing.
use Rattle.std.proofs.Common.{◌≡◌, ℕ, zero, suc, Bool, true, false, cond, not, ◌&&◌, List, [], ◌∷◌, ◌++◌, ◌+◌, length, map, Option, Some, None, refl, ap}
use Rattle.std.specs.Prelude.{replicate}
use Rattle.std.specs.List.{list_all, range_with_len}
use Rattle.ds_codec.specs.declared.cell.Cell.{Cell}
use Rattle.ds_screen.specs.declared.lock.Lock.{Lock}
use Rattle.ds_screen.specs.declared.lock.Lock.TheVariants as locks
use Rattle.ds_screen.specs.Picture.{Picture, cell_at}
use Rattle.ds_screen.specs.Ring.{ring_on, ring_back}
use Rattle.ds_screen.specs.Fields.{is_attribute, is_open, attribute_before}
use Rattle.ds_keys.specs.declared.key.Key.{Key}
use Rattle.ds_keys.specs.declared.key.Key.TheVariants.{Typed, Left, Right, Up, Down, Tab, BackTab, NewLine, Home, EraseEof, EraseInput, Delete, Reset, Attention}
use Rattle.ds_keys.specs.KeyRuns.{after_key, answer_of, is_sent, is_quiet}
use Rattle.ds_codec.specs.Character.{is_graphic}
use Rattle.ds_keys.specs.Moves.{settled}
use Rattle.ds_keys.specs.KeyStep.{Step, step_of, step_under, free_step, error_step, typed_step, erase_eof_step, delete_step, typed_cell, end_erased_cell, deleted_cell, run_end, edited, ignored, inhibited, if_open}
use Rattle.script_keys.specs.declared.keys.Keys.TheVariants.{Plain, Freeing, Erase, FieldEnd, DeleteField, MoveTo}
use Rattle.script_keys.specs.declared.run.Run.{Run}
use Rattle.script_keys.specs.Laws.{is_attention, TypesQuietly, PressesQuietly}
use Rattle.script_keys.specs.Runs.{once, keys_of}
use Rattle.script_keys.specs.Fill.{is_null, fill_run, fill_to, is_in_field, fill_runs, first_null, typed_runs}
use Rattle.script_keys.specs.Steps.{is_error, freed, rights_to, erase_runs, end_after, field_end_runs, erase_after, delete_field_runs, runs_of}

abbrev is_plain : Key → Bool
is_plain key = not (is_attention key)

by_step : (t : Bool) (a b : Step) → is_sent a.pressed ≡ false → is_sent b.pressed ≡ false → is_sent (cond t a b).pressed ≡ false
by_step true a b first second = first
by_step false a b first second = second

open_quiet : (v : Picture) (change : Step) → is_sent change.pressed ≡ false → is_sent (if_open v change).pressed ≡ false
open_quiet v change quiet = by_step (is_open v.cells v.cursor) change (inhibited v) quiet refl

free_quiet : (v : Picture) (key : Key) → is_plain key ≡ true → is_sent (free_step v key).pressed ≡ false
unfolding free_step typed_step erase_eof_step delete_step
free_quiet v (Typed code) plain =
    let change : Step = edited v (typed_cell v.cells v.cursor code) (settled v.cells (ring_on (length v.cells) v.cursor 1)) in
    by_step (is_graphic code) (if_open v change) (ignored v) (open_quiet v change refl) refl
free_quiet v Left plain = refl
free_quiet v Right plain = refl
free_quiet v Up plain = refl
free_quiet v Down plain = refl
free_quiet v Tab plain = refl
free_quiet v BackTab plain = refl
free_quiet v NewLine plain = refl
free_quiet v Home plain = refl
free_quiet v EraseEof plain = open_quiet v (edited v (end_erased_cell v.cells v.cursor) v.cursor) refl
free_quiet v EraseInput plain = refl
free_quiet v Delete plain = open_quiet v (edited v (deleted_cell v.cells (run_end v.cells v.size.cols v.cursor) v.cursor) v.cursor) refl
free_quiet v Reset plain = refl
free_quiet v (Attention aid) plain = absurd (cc)

error_quiet : (v : Picture) (key : Key) → is_sent (error_step v key).pressed ≡ false
error_quiet v (Typed code) = refl
error_quiet v Left = refl
error_quiet v Right = refl
error_quiet v Up = refl
error_quiet v Down = refl
error_quiet v Tab = refl
error_quiet v BackTab = refl
error_quiet v NewLine = refl
error_quiet v Home = refl
error_quiet v EraseEof = refl
error_quiet v EraseInput = refl
error_quiet v Delete = refl
error_quiet v Reset = refl
error_quiet v (Attention aid) = refl

under_quiet : (lock : Lock) (v : Picture) (key : Key) → is_plain key ≡ true → is_sent (step_under lock v key).pressed ≡ false
under_quiet locks.Free v key plain = free_quiet v key plain
under_quiet locks.Waiting v key plain = refl
under_quiet locks.Error v key plain = error_quiet v key

key_quiet : (v : Picture) (key : Key) → is_plain key ≡ true → is_sent (answer_of v key) ≡ false
unfolding step_of
key_quiet v key plain = under_quiet v.lock v key plain

both : (a b : Bool) → a ≡ true → b ≡ true → a && b ≡ true
both true b first second = second
both false b first second = first

first_of : (a b : Bool) → a && b ≡ true → a ≡ true
first_of true b holds = refl
first_of false b holds = holds

second_of : (a b : Bool) → a && b ≡ true → b ≡ true
second_of true b holds = holds
second_of false b holds = absurd (cc)

keys_quiet : (v : Picture) (keys : List Key) → list_all is_plain keys ≡ true → is_quiet v keys ≡ true
unfolding is_quiet
keys_quiet v [] plain = refl
keys_quiet v (key ∷ keys) plain =
    both (not (is_sent (answer_of v key))) (is_quiet (after_key v key) keys)
    (ap not (key_quiet v key (first_of (is_plain key) (list_all is_plain keys) plain)))
    (keys_quiet (after_key v key) keys (second_of (is_plain key) (list_all is_plain keys) plain))

all_append : (a b : List Key) → list_all is_plain a ≡ true → list_all is_plain b ≡ true → list_all is_plain (a ++ b) ≡ true
all_append [] b first second = second
all_append (key ∷ a) b first second =
    both (is_plain key) (list_all is_plain (a ++ b)) (first_of (is_plain key) (list_all is_plain a) first)
    (all_append a b (second_of (is_plain key) (list_all is_plain a) first) second)

times_plain : (key : Key) (count : ℕ) → is_plain key ≡ true → list_all is_plain (replicate count key) ≡ true
times_plain key zero plain = refl
times_plain key (suc count) plain = both (is_plain key) (list_all is_plain (replicate count key)) plain (times_plain key count plain)

abbrev is_plain_run : Run → Bool
is_plain_run run = is_plain run.key

runs_plain : (runs : List Run) → list_all is_plain_run runs ≡ true → list_all is_plain (keys_of runs) ≡ true
runs_plain [] plain = refl
runs_plain (run ∷ runs) plain =
    all_append (replicate run.times run.key) (keys_of runs) (times_plain run.key run.times (first_of (is_plain run.key) (list_all is_plain_run runs) plain))
    (runs_plain runs (second_of (is_plain run.key) (list_all is_plain_run runs) plain))

pub runs_quiet : (w : Picture) (runs : List Run) → list_all is_plain_run runs ≡ true → is_quiet w (keys_of runs) ≡ true
runs_quiet w runs plain = keys_quiet w (keys_of runs) (runs_plain runs plain)

append_plain : (a b : List Run) → list_all is_plain_run a ≡ true → list_all is_plain_run b ≡ true → list_all is_plain_run (a ++ b) ≡ true
append_plain [] b first second = second
append_plain (run ∷ a) b first second =
    both (is_plain_run run) (list_all is_plain_run (a ++ b)) (first_of (is_plain_run run) (list_all is_plain_run a) first)
    (append_plain a b (second_of (is_plain_run run) (list_all is_plain_run a) first) second)

by_runs : (t : Bool) (a b : List Run) → list_all is_plain_run a ≡ true → list_all is_plain_run b ≡ true → list_all is_plain_run (cond t a b) ≡ true
by_runs true a b first second = first
by_runs false a b first second = second

fill_plain : (t : Bool) → is_plain (cond t (Typed 0x40) Right) ≡ true
fill_plain true = refl
fill_plain false = refl

map_plain : (cells : List Cell) (start : ℕ) (places : List ℕ) → list_all is_plain_run (map (fill_run cells start) places) ≡ true
map_plain cells start [] = refl
map_plain cells start (d ∷ places) =
    both (is_plain_run (fill_run cells start d)) (list_all is_plain_run (map (fill_run cells start) places))
    (fill_plain (is_null (cell_at cells (ring_on (length cells) start d)))) (map_plain cells start places)

to_plain : (cells : List Cell) (c : ℕ) (null : Option ℕ) → list_all is_plain_run (fill_to cells c null) ≡ true
to_plain cells c None = refl
to_plain cells c (Some d) = map_plain cells (ring_back (length cells) c (d + 1)) (range_with_len 0 (d + 1))

pub types_quietly : TypesQuietly
types_quietly v w true code =
    runs_quiet w (typed_runs v true code)
    (append_plain (fill_runs v) (once (Typed code) ∷ []) (by_runs (is_in_field v) (fill_to v.cells v.cursor (first_null v.cells v.size.cols v.cursor)) [] (to_plain v.cells v.cursor (first_null v.cells v.size.cols v.cursor)) refl) refl)
types_quietly v w false code = runs_quiet w (typed_runs v false code) refl

freed_plain : (v : Picture) → list_all is_plain_run (freed v) ≡ true
freed_plain v = by_runs (is_error v.lock) (once Reset ∷ []) [] refl refl

end_plain : (v : Picture) (place : Option ℕ) → list_all is_plain_run (end_after v place) ≡ true
end_plain v None = refl
end_plain v (Some q) = refl

erase_plain : (v : Picture) (place : Option ℕ) → list_all is_plain_run (erase_after v place) ≡ true
erase_plain v None = refl
erase_plain v (Some q) = by_runs (is_open v.cells v.cursor) (rights_to v (ring_on (length v.cells) q 1) ∷ once EraseEof ∷ []) (once EraseEof ∷ []) refl refl

key_plain : (key : Key) → is_attention key ≡ false → list_all is_plain_run (once key ∷ []) ≡ true
key_plain key plain = both (is_plain key) true (ap not plain) refl

pub presses_quietly : PressesQuietly
presses_quietly v w (Plain key) plain = runs_quiet w (once key ∷ []) (key_plain key plain)
presses_quietly v w (Freeing key) plain = runs_quiet w (freed v ++ once key ∷ []) (append_plain (freed v) (once key ∷ []) (freed_plain v) (key_plain key plain))
presses_quietly v w Erase plain = runs_quiet w (erase_runs v) (by_runs (is_attribute (cell_at v.cells (ring_back (length v.cells) v.cursor 1))) [] (once Left ∷ once Delete ∷ []) refl refl)
presses_quietly v w FieldEnd plain =
    runs_quiet w (freed v ++ field_end_runs v)
    (append_plain (freed v) (field_end_runs v) (freed_plain v) (by_runs (is_open v.cells v.cursor) (end_after v (attribute_before v.cells v.cursor)) [] (end_plain v (attribute_before v.cells v.cursor)) refl))
presses_quietly v w DeleteField plain =
    runs_quiet w (freed v ++ delete_field_runs v) (append_plain (freed v) (delete_field_runs v) (freed_plain v) (erase_plain v (attribute_before v.cells v.cursor)))
presses_quietly v w (MoveTo target) plain = runs_quiet w (runs_of v (MoveTo target)) refl
