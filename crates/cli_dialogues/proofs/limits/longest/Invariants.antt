use Rattle.std.proofs.Common.{◌≡◌, ◌<◌, ◌^◌, max, length, map}
use Rattle.cli_hosts.specs.Limits.{counted}
use Rattle.cli_dialogues.specs.Limits.{screen_room, greatest}
use Rattle.cli_dialogues.proofs.limits.longest.Given as goal

abbrev pub invariant-loop-rest : goal.invariant-loop-rest
invariant-loop-rest l =
    (l.longest < 2 ^ 64) × (counted (max l.longest (greatest (map screen_room l.rest))) ≡ counted (greatest (map screen_room l.screens)))

abbrev pub decreases-loop-rest : goal.decreases-loop-rest
decreases-loop-rest l = length l.rest
