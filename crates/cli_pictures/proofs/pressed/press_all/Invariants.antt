use Rattle.std.proofs.Common.{◌≡◌, drop}
use Rattle.ds_keys.specs.KeyRuns.{after}
use Rattle.cli_pictures.proofs.pressed.press_all.Given as goal

abbrev pub invariant-loop-key : goal.invariant-loop-key
invariant-loop-key l = after l.terminal (drop l.key-index l.keys) ≡ after l.fn.terminal l.keys
