use Rattle.std.proofs.Common.{◌≡◌, ◌++◌, map, take}
use Rattle.script_keys.specs.Runs.{keys_of}
use Rattle.cli_scripts.specs.Pressing.{after_keys, all_typed_at, any_inhibited}
use Rattle.cli_scripts.specs.declared.deed.Deed.TheVariants.{Pressed}
use Rattle.cli_scripts.specs.Desks.{KeepsScreens}
use Rattle.cli_scripts.proofs.desk.Desk.press_runs.Given as goal

abbrev pub invariant-runs : goal.invariant-runs
invariant-runs l =
    record {
      deeds : l.self.deeds ≡ l.initial.self.deeds ++ map Pressed (keys_of (take l.run-index l.runs));
      heard : l.self.heard ≡ l.initial.self.heard;
      gone : l.self.gone ≡ l.initial.self.gone;
      screens : KeepsScreens l.initial.self l.self;
      host : l.self.host ≡ l.initial.self.host;
      talk : l.self.talk ≡ after_keys l.initial.self.talk (keys_of (take l.run-index l.runs));
      inhibited : l.inhibited ≡ any_inhibited l.initial.self.talk (keys_of (take l.run-index l.runs));
      typed : l.self ≡ all_typed_at l.initial.self (keys_of (take l.run-index l.runs));
    }
