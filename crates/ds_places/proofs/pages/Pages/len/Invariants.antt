use Rattle.std.proofs.Common.{◌≡◌, ◌≤◌, ◌+◌, ◌*◌, drop, length}
use Rattle.ds_places.specs.Pages.{entries_in, lists_of}
use Rattle.ds_places.proofs.pages.Pages.len.Given as goal

abbrev pub invariant-blocks-2 : goal.invariant-blocks-2
invariant-blocks-2 g l =
    record {
      counted : length (entries_in (lists_of l.self-inside.blocks.items)) ≡ l.total + length (entries_in (drop l.i (lists_of l.self-inside.blocks.items)));
      few : l.total ≤ 512 * l.i;
    }
