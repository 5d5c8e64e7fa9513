use Rattle.std.proofs.Common.{◌≡◌, ℕ, ◌+◌, ◌%◌, ◌<◌, length}
use Rattle.ds_screen.specs.Picture.{ruled}
use Rattle.ds_screen.proofs.RunLaws.{run_cell}
use Rattle.ds_screen.proofs.cells.Cells.put_text.Given as goal

abbrev pub invariant-bytes : goal.invariant-bytes
invariant-bytes g l =
    let content = g.Self.Cells.content in
    let n : ℕ = length (content l.fn.self) in
    record {
      stored : content l.self ≡ ruled n (run_cell (content l.fn.self) l.b l.run l.byte-index);
      whole : length (content l.self) ≡ n;
      at : l.at ≡ (l.b + l.byte-index) % n;
      inside : l.at < n;
      room : g.Self.Cells.capacity l.self ≡ g.Self.Cells.capacity l.fn.self;
    }
