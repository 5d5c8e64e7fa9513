use Rattle.std.proofs.Common.{◌≡◌, length, map, string_bytes}
use Rattle.std.specs.List.{range_with_len}
use Rattle.scr_layout.specs.Rows.{numbered}
use Rattle.scr_layout.proofs.rows.numbered_names.Given as goal

-- the names of the numbers so far
abbrev pub invariant-loop-index : goal.invariant-loop-index
invariant-loop-index l = record {
  names : map string_bytes l.names.items ≡ map (numbered l.fn.name) (range_with_len 1 l.index);
  len : length l.names.items ≡ l.index;
}
