use Rattle.std.proofs.Common.{◌≡◌, length}
use Rattle.cli_reasons.specs.TomlPlace.{place_after}
use Rattle.cli_reasons.proofs.toml_place.place_after.Given as goal

abbrev pub invariant-loop-rest : goal.invariant-loop-rest
invariant-loop-rest l = place_after l.line l.column l.rest ≡ place_after 1 1 l.bytes

abbrev pub decreases-loop-rest : goal.decreases-loop-rest
decreases-loop-rest l = length l.rest
