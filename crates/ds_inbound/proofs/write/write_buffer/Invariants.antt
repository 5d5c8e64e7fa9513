use Rattle.std.proofs.Common.{◌≡◌, ◌∷◌, ◌++◌, take, length}
use Rattle.std.specs.List.{flat_map}
use Rattle.ds_codec.specs.Address.{written_address}
use Rattle.ds_inbound.specs.Answer.{written_cell}
use Rattle.ds_inbound.proofs.write.write_buffer.Given as goal

abbrev pub invariant-places : goal.invariant-places
invariant-places g l =
    let v = l.screen in
    l.out.items ≡ (v.aid ∷ written_address v.geometry.mode (length v.cells) v.cursor) ++ flat_map written_cell (take l.p v.cells)
