use Rattle.std.proofs.Common.{◌≡◌, []}
use Rattle.ds_places.specs.Pages.{lists_of, rooms_of}
use Rattle.ds_places.proofs.BlockLaws.{Walked, bound}
use Rattle.ds_places.proofs.blocks.clear_blocks.Given as goal

abbrev pub invariant-blocks-2 : goal.invariant-blocks-2
invariant-blocks-2 g l =
    record {
      walked : Walked (λ k xs. xs ≡ []) (lists_of l.fn.blocks.items) (lists_of l.blocks.items) (bound l.used l.i);
      room : rooms_of l.blocks.items ≡ rooms_of l.fn.blocks.items;
    }
