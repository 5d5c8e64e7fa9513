use Rattle.std.proofs.Common.{◌≡◌, ◌≤◌, ℕ, length}
use Rattle.bms_map.specs.Pictures.{length_from}
use Rattle.bms_map.proofs.picture.length_in.Given as goal

abbrev pub invariant-loop-rest : goal.invariant-loop-rest
invariant-loop-rest l = record { same : (symbols : ℕ) × (length l.rest ≤ symbols) × (length_from symbols l.length l.rest ≡ length_from (length l.picture) 0 l.picture); few : l.length ≤ 256 }

abbrev pub decreases-loop-rest : goal.decreases-loop-rest
decreases-loop-rest l = length l.rest
