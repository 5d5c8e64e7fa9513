use Rattle.std.proofs.Common.{◌≡◌, ℕ, ◌<◌, length}
use Rattle.ds_codec.specs.declared.cell.Cell.TheVariants.{Char}
use Rattle.ds_screen.specs.Ring.{ring_on}
use Rattle.ds_screen.specs.Picture.{ruled}
use Rattle.ds_screen.proofs.RuledLaws.{walked_cell}
use Rattle.ds_screen.proofs.cells.Cells.repeat.Given as goal

abbrev pub invariant-steps : goal.invariant-steps
invariant-steps g l =
    let content = g.Self.Cells.content in
    let n : ℕ = length (content l.fn.self) in
    record {
      stored : content l.self ≡ ruled n (walked_cell (content l.fn.self) l.b l.steps (λ p. Char l.character));
      whole : length (content l.self) ≡ n;
      at : l.at ≡ ring_on n l.b l.steps;
      inside : l.at < n;
      room : g.Self.Cells.capacity l.self ≡ g.Self.Cells.capacity l.fn.self;
    }
