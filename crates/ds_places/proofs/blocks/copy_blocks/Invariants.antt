use Rattle.std.proofs.Common.{◌≡◌, ◌<◌, ◌≤◌, ℕ, length, get_or}
use Rattle.ds_places.specs.Pages.{lists_of, rooms_of, list_at}
use Rattle.ds_places.proofs.BlockLaws.{Walked, bound}
use Rattle.ds_places.proofs.blocks.copy_blocks.Given as goal

abbrev pub invariant-blocks-2 : goal.invariant-blocks-2
invariant-blocks-2 g l =
    record {
      walked : Walked (λ k xs. xs ≡ list_at (lists_of l.others) k) (lists_of l.fn.blocks.items) (lists_of l.blocks.items) (bound l.used l.i);
      count : length l.blocks.items ≡ length l.fn.blocks.items;
      roomy : (k : ℕ) → k < length l.fn.blocks.items → 512 ≤ get_or (rooms_of l.blocks.items) k 0;
    }
