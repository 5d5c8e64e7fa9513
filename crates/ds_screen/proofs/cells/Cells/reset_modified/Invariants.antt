use Rattle.std.proofs.Common.{◌≡◌, ℕ, length}
use Rattle.ds_screen.specs.Picture.{ruled, cell_at}
use Rattle.ds_screen.specs.Reset.{after_reset}
use Rattle.ds_screen.proofs.RuledLaws.{walked_cell}
use Rattle.ds_screen.proofs.cells.Cells.reset_modified.Given as goal

abbrev pub invariant-places : goal.invariant-places
invariant-places g l =
    let content = g.Self.Cells.content in
    let n : ℕ = length (content l.fn.self) in
    record {
      stored : content l.self ≡ ruled n (walked_cell (content l.fn.self) 0 l.p (λ q. after_reset l.which (cell_at (content l.fn.self) q)));
      whole : length (content l.self) ≡ n;
      end : l.p-end ≡ n;
      room : g.Self.Cells.capacity l.self ≡ g.Self.Cells.capacity l.fn.self;
    }
