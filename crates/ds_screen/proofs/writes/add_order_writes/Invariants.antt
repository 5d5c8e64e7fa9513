use Rattle.std.proofs.Common.{◌≡◌, ◌++◌}
use Rattle.ds_screen.specs.State.{writing, HaveCharacters}
use Rattle.ds_screen.specs.Surface.{Makes, IsOn}
use Rattle.ds_screen.specs.Writes.{order_writes}
use Rattle.ds_screen.proofs.writes.add_order_writes.Given as goal

-- what was added, and what is left to write, are the whole
abbrev pub invariant-orders : goal.invariant-orders
invariant-orders g l =
    record {
      rest : Makes g.S.Surface.shows l.fn.surface l.surface
          (λ cells later. l.writes.items ++ order_writes l.placed-iterator (writing later l.state)
          ≡ l.fn.writes.items ++ order_writes l.outbound.orders (writing cells l.fn.start));
      characters : HaveCharacters l.placed-iterator;
      inside : IsOn (g.S.Surface.size l.fn.surface) l.state;
      whole : g.S.Surface.size l.surface ≡ g.S.Surface.size l.fn.surface;
      room : g.S.Surface.room l.surface ≡ g.S.Surface.room l.fn.surface;
    }
