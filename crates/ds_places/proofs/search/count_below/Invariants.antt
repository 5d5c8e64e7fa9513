use Rattle.std.proofs.Common.{◌≡◌, ◌<◌, ◌≤◌, ◌-◌, ◌*◌, ◌^◌, ℕ, length, get_or}
use Rattle.ds_places.specs.Nearest.{AreFew}
use Rattle.ds_places.proofs.search.count_below.Given as goal

abbrev pub invariant-halves : goal.invariant-halves
invariant-halves g l =
    record {
      kept : l.seen.entries.now ≡ l.fn.seen.entries.now;
      order : l.low ≤ l.high;
      within : l.high ≤ length l.fn.seen.entries.now;
      early : (k : ℕ) (d : g.row.T.Denot) → k < l.low → g.T.Placed.place_of (get_or l.fn.seen.entries.now k d) < l.place;
      late : (k : ℕ) (d : g.row.T.Denot) → l.high ≤ k → k < length l.fn.seen.entries.now → l.place ≤ g.T.Placed.place_of (get_or l.fn.seen.entries.now k d);
      left : 2 ^ l.seen.looks * (l.high - l.low) ≤ length l.fn.seen.entries.now;
      looks : AreFew l.fn.seen.entries.now 0 l.seen.looks;
    }

abbrev pub decreases-halves : goal.decreases-halves
decreases-halves g l = l.high - l.low
