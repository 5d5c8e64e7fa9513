use Rattle.std.proofs.Common.{◌≡◌, [], ◌≤◌, drop}
use Rattle.toml.specs.View.{items_view}
use Rattle.scr_layout.specs.Top.{tables_in}
use Rattle.scr_layout.specs.Layout.{entries_of}
use Rattle.scr_layout.proofs.layout.entries_of.Given as goal

-- the entries so far, with those of the values that are left, are those of all
abbrev pub invariant-loop-value : goal.invariant-loop-value
invariant-loop-value l = record {
  entries : entries_of l.version l.size l.field l.listed (tables_in (items_view (drop l.value-index l.values))) ≡ entries_of l.fn.version l.fn.size 0 [] (tables_in (items_view l.fn.values));
  counted : l.field ≤ l.value-index;
}
