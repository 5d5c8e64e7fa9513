use Rattle.std.proofs.Common.{◌≡◌, ℕ, ◌&&◌, cond, leb, ltb, get_or}
use Rattle.ds_screen.proofs.planes.fill_part.Given as goal

abbrev pub invariant-indexes : goal.invariant-indexes
invariant-indexes g l = (p : ℕ) (d : g.row.T.Denot) → get_or l.items p d ≡ cond (leb l.from p && ltb p l.i) l.value (get_or l.fn.items p d)
