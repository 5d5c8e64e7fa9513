use Rattle.std.proofs.Common.{◌≡◌, ◌+◌, ◌-◌, ℕ, length, ◌∙◌, ap, arith}
use Rattle.ds_screen.specs.Picture.{ruled}
use Rattle.ds_screen.specs.Planes.{Held, filled_cell}
use Rattle.ds_screen.proofs.RuledLaws.{length-ruled}
use Rattle.ds_screen.proofs.IndexLaws.{round_both}
use Rattle.ds_screen.proofs.plane_cells.fill_round.Goals as goal

pub fill-requires-else-steps-left-2-clause-inside : goal.fill-requires-else-steps-left-2-clause-inside
fill-requires-else-steps-left-2-clause-inside c =
    omega (arith, ap (λ (u : Held). length u.cells) c.fill-else-steps-left.ensures.filled, length-ruled (length c.args.planes.now.cells) (filled_cell c.args.planes.now.cells c.args.b (c.args.b + (c.len.result - c.args.b)) c.args.character), c.requires.few, c.requires.inside, c.len.ensures.count, c.if-steps-left.false)

pub returns-else-steps-left : goal.returns-else-steps-left
returns-else-steps-left c =
    let old = c.args.planes.now.cells in
    let left : ℕ = c.len.result - c.args.b in
    let first : Held = record { cells = ruled (length old) (filled_cell old c.args.b (c.args.b + left) c.args.character); room = c.args.planes.now.room } in
    let before : c.fill-else-steps-left.new.self ≡ first = c.fill-else-steps-left.ensures.filled in
    let cells = round_both old c.args.b c.args.steps left c.args.character c.requires.inside c.requires.few (omega (arith, c.len.ensures.count)) (omega (arith, c.if-steps-left.false)) in
    record {
      filled =
          c.fill-else-steps-left-2.ensures.filled
          ∙ ap (λ (u : Held). let h : Held = record { cells = ruled (length u.cells) (filled_cell u.cells 0 (c.args.steps - left) c.args.character); room = u.room } in h) before
          ∙ ap (λ l. let h : Held = record { cells = l; room = c.args.planes.now.room } in h) cells;
    }
