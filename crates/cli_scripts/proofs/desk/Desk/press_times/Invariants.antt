use Rattle.std.proofs.Common.{◌≡◌, ◌++◌, replicate}
use Rattle.cli_scripts.specs.Pressing.{after_keys, all_typed_at, any_inhibited}
use Rattle.cli_scripts.specs.declared.deed.Deed.TheVariants.{Pressed}
use Rattle.cli_scripts.specs.Desks.{KeepsScreens}
use Rattle.cli_scripts.proofs.desk.Desk.press_times.Given as goal

abbrev pub invariant-times : goal.invariant-times
invariant-times l =
    record {
      deeds : l.self.deeds ≡ l.initial.self.deeds ++ replicate l._time (Pressed l.key);
      heard : l.self.heard ≡ l.initial.self.heard;
      gone : l.self.gone ≡ l.initial.self.gone;
      screens : KeepsScreens l.initial.self l.self;
      host : l.self.host ≡ l.initial.self.host;
      talk : l.self.talk ≡ after_keys l.initial.self.talk (replicate l._time l.key);
      inhibited : l.inhibited ≡ any_inhibited l.initial.self.talk (replicate l._time l.key);
      typed : l.self ≡ all_typed_at l.initial.self (replicate l._time l.key);
    }
