use Rattle.std.proofs.Common.{◌≡◌, ◌<◌, ◌≤◌, ℕ, [], length, get_or}
use Rattle.ds_places.specs.Pages.{lists_of, rooms_of, list_at}
use Rattle.ds_places.proofs.blocks.reserved.Given as goal

abbrev pub invariant-blocks-2 : goal.invariant-blocks-2
invariant-blocks-2 g l =
    record {
      count : length l.blocks.items ≡ l._made;
      empty : (k : ℕ) → list_at (lists_of l.blocks.items) k ≡ [];
      roomy : (k : ℕ) → k < l._made → 512 ≤ get_or (rooms_of l.blocks.items) k 0;
    }
