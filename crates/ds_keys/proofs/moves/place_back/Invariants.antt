use Rattle.std.proofs.Common.{◌≡◌, ◌-◌, ◌<◌, ◌≤◌, length}
use Rattle.ds_screen.specs.Ring.{ring_back}
use Rattle.ds_keys.proofs.SearchLaws.{NoStartBack}
use Rattle.ds_keys.proofs.moves.place_back.Given as goal

abbrev pub invariant-attributes : goal.invariant-attributes
invariant-attributes g l =
    let cells = l.screen.cells in
    let n = length cells in
    record {
      at_steps : l.at ≡ ring_back n (ring_back n (ring_back n l.from 1) 1) l.gone;
      inside : l.at < n;
      few : l.gone ≤ n;
      misses : NoStartBack cells l.from l.gone;
    }

abbrev pub decreases-attributes : goal.decreases-attributes
decreases-attributes g l = l.n - l.gone
