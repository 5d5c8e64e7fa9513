use Rattle.std.proofs.Common.{◌≡◌, ◌++◌, map, take, drop, vec_capacity}
use Rattle.ds_places.proofs.blocks.change_block.Given as goal

abbrev pub invariant-entries : goal.invariant-entries
invariant-entries g l =
    record {
      changed : l.entries.items ≡ map (g.C.Change.changed l.change) (take l.i l.fn.entries.items) ++ drop l.i l.fn.entries.items;
      room : vec_capacity l.entries ≡ vec_capacity l.fn.entries;
    }
