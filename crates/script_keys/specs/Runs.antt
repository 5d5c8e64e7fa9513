-- Keys, one after the other.
use Rattle.std.specs.Prelude.{ℕ, List, replicate}
use Rattle.std.specs.List.{flat_map}
use Rattle.ds_screen.specs.Picture.{Picture}
use Rattle.ds_keys.specs.declared.key.Key.{Key}
use Rattle.ds_keys.specs.KeyRuns.{after}
use Rattle.script_keys.specs.declared.run.Run.{Run}

abbrev pub repeated : Key → ℕ → Run
repeated key count = record { key = key; times = count }

abbrev pub once : Key → Run
once key = repeated key 1

abbrev pub keys_of_run : Run → List Key
keys_of_run run = replicate run.times run.key

-- the keys of runs, in turn
abbrev pub keys_of : List Run → List Key
keys_of runs = flat_map keys_of_run runs

-- the picture that runs leave
abbrev pub after_runs : Picture → List Run → Picture
after_runs v runs = after v (keys_of runs)
