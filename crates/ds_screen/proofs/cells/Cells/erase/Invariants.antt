use Rattle.std.proofs.Common.{◌≡◌, ℕ, ◌<◌, length}
use Rattle.ds_screen.specs.Ring.{ring_on, ring_back}
use Rattle.ds_screen.specs.Picture.{ruled}
use Rattle.ds_screen.specs.Fields.{ruling_bits}
use Rattle.ds_screen.proofs.RuledLaws.{walked_cell}
use Rattle.ds_screen.proofs.EraseLaws.{nulled_open}
use Rattle.ds_screen.proofs.cells.Cells.erase.Given as goal

abbrev pub invariant-steps : goal.invariant-steps
invariant-steps g l =
    let content = g.Self.Cells.content in
    let n : ℕ = length (content l.fn.self) in
    record {
      stored : content l.self ≡ ruled n (walked_cell (content l.fn.self) l.b l.steps (nulled_open (content l.fn.self)));
      whole : length (content l.self) ≡ n;
      at : l.at ≡ ring_on n l.b l.steps;
      inside : l.at < n;
      ruled_by : l.bits ≡ ruling_bits (content l.fn.self) (ring_back n l.at 1);
      room : g.Self.Cells.capacity l.self ≡ g.Self.Cells.capacity l.fn.self;
    }
