use Rattle.std.proofs.Common.{◌≡◌, ◌++◌, ◌<◌, ℕ, take, None}
use Rattle.std.specs.List.{flat_map}
use Rattle.ds_codec.specs.Writing.{items_of, item_at, follows_text, flaw_at, IsValidItem, written_order}
use Rattle.ds_codec.proofs.write.push_orders.Given as goal

abbrev pub invariant-loop-k : goal.invariant-loop-k
invariant-loop-k l =
    let items = items_of l.orders in
    record {
      bytes : l.out.items ≡ l.fn.out.items ++ flat_map (written_order l.mode l.cells) (take l.k items);
      text : l.after_text ≡ follows_text items l.k;
      good : (j : ℕ) → j < l.k → flaw_at l.cells items j ≡ None;
      valid : (j : ℕ) → j < l.k → IsValidItem (item_at items j);
    }
