use Rattle.std.proofs.Common.{◌≡◌, ℕ, ◌<◌, ◌≤◌, false, length}
use Rattle.ds_screen.specs.Picture.{ruled, cell_at}
use Rattle.ds_screen.specs.Fields.{is_attribute}
use Rattle.ds_screen.specs.Orders.{nulled_cell}
use Rattle.ds_screen.proofs.cells.Cells.null_to_attribute.Given as goal

abbrev pub invariant-places : goal.invariant-places
invariant-places g l =
    let content = g.Self.Cells.content in
    let n : ℕ = length (content l.fn.self) in
    record {
      stored : content l.self ≡ ruled n (nulled_cell (content l.fn.self) l.b l.p);
      whole : length (content l.self) ≡ n;
      misses : (q : ℕ) → l.b ≤ q → q < l.p → is_attribute (cell_at (content l.fn.self) q) ≡ false;
      room : g.Self.Cells.capacity l.self ≡ g.Self.Cells.capacity l.fn.self;
    }
