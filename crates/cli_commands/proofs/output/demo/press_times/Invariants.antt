use Rattle.std.proofs.Common.{◌≡◌, replicate}
use Rattle.ds_keys.specs.KeyRuns.{after}
use Rattle.cli_commands.proofs.output.demo.press_times.Given as goal

abbrev pub invariant-loop : goal.invariant-loop
invariant-loop l = l.terminal ≡ after l.fn.terminal (replicate l.counter l.key)
