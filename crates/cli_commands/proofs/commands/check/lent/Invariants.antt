use Rattle.std.proofs.Common.{◌≡◌, ◌++◌, map, drop}
use Rattle.cli_commands.proofs.commands.check.lent.Given as goal

abbrev pub invariant-loop-bytes : goal.invariant-loop-bytes
invariant-loop-bytes l =
    map (λ bytes. bytes.now) l.slices.items ++ map (λ bytes. bytes.items) (drop l.bytes-index l.records) ≡ map (λ bytes. bytes.items) l.records
