use Rattle.std.proofs.Common.{◌≡◌, ◌+◌, ◌<◌, ◌^◌, length, map}
use Rattle.std.specs.List.{sum_by}
use Rattle.cli_hosts.specs.Limits.{counted, room_of}
use Rattle.cli_hosts.proofs.limits.room_of.Given as goal

abbrev pub invariant-loop-rest : goal.invariant-loop-rest
invariant-loop-rest l =
    (l.room < 2 ^ 64) × (counted (l.room + sum_by room_of (map (λ bytes. bytes.now) l.rest)) ≡ counted (sum_by room_of (map (λ bytes. bytes.now) l.records)))

abbrev pub decreases-loop-rest : goal.decreases-loop-rest
decreases-loop-rest l = length l.rest
