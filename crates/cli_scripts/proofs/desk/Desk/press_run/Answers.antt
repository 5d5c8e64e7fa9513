use Rattle.std.proofs.Common.{◌≡◌, ◌++◌, Bool, List, Result, Ok, Err, map, replicate, sym, ap, ◌∙◌}
use Rattle.std.specs.Prelude.{OnOk}
use Rattle.std.specs.declared.alloc.AllocError.{AllocError}
use Rattle.script_keys.specs.Runs.{keys_of_run}
use Rattle.cli_scripts.specs.declared.deed.Deed.{Deed}
use Rattle.cli_scripts.specs.declared.deed.Deed.TheVariants.{Pressed}
use Rattle.script_keys.specs.declared.run.Run.{Run}
use Rattle.cli_scripts.proofs.Presses.{same_keys}
use Rattle.cli_scripts.proofs.desk.Desk.press_run.Goals as goal

all : (result : Result Bool AllocError) (start new : List Deed) (run : Run) → OnOk result (new ≡ start ++ replicate run.times (Pressed run.key))
    → OnOk result (new ≡ start ++ map Pressed (keys_of_run run))
all (Ok done) start new run is = is ∙ ap (λ z. start ++ z) (sym (same_keys run.key run.times))
all (Err why) start new run is = is

pub returns-clause-deeds : goal.returns-clause-deeds
returns-clause-deeds c = all c.press_times.result c.args.self.now.deeds c.press_times.new.self.deeds c.args.run.now c.press_times.ensures.deeds
