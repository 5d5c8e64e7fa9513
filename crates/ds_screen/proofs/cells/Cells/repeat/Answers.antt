use Rattle.std.proofs.Common.{◌≡◌, ◌<◌, ℕ, ◌+◌, true, cond, eqb, List, length, refl, sym, ◌∙◌, ap, arith}
use Rattle.ds_codec.specs.declared.cell.Cell.{Cell}
use Rattle.ds_codec.specs.declared.cell.Cell.TheVariants.{Char}
use Rattle.ds_screen.specs.Ring.{ring_distance}
use Rattle.ds_screen.proofs.RingLaws.{on-zero}
use Rattle.ds_screen.proofs.RuledLaws.{walk_none, walk_step, length_walked, place_more}
use Rattle.ds_screen.proofs.EraseLaws.{repeat_done}
use Rattle.ds_screen.proofs.cells.Cells.repeat.Goals as goal

pub steps-init : goal.steps-init
steps-init g c =
    let old : List Cell = g.Self.Cells.content c.args.self.now in
    record {
      stored = walk_none old c.args.b (λ p. Char c.args.character);
      whole = refl;
      at = sym (on-zero (length old) c.args.b c.requires.inside);
      inside = c.requires.inside;
      room = refl;
    }

pub put-requires : goal.put-requires
put-requires g c = omega (arith, c.steps.invariant.whole, c.steps.invariant.inside)

pub steps-preserved : goal.steps-preserved
steps-preserved g c =
    let old : List Cell = g.Self.Cells.content c.args.self.now in
    let now : List Cell = g.Self.Cells.content c.steps.self in
    let after : List Cell = g.Self.Cells.content c.put.new.self in
    let at : ℕ = c.steps.at in
    let few : c.steps.steps < length old = omega (arith, c.reach-steps-end.ensures.within, c.len-n.ensures, c.steps-test.true) in
    let stored = walk_step old c.args.b c.steps.steps at (λ p. Char c.args.character) true (Char c.args.character) now after c.requires.inside few
    c.steps.invariant.at c.steps.invariant.stored refl c.put.ensures.stored in
    record {
      stored = stored;
      whole = length_walked old c.args.b (c.steps.steps + 1) (λ p. Char c.args.character) after stored;
      at = place_more (length old) c.len-n.result c.args.b c.steps.steps at c.next-at.result c.requires.inside few c.len-n.ensures c.steps.invariant.at c.next-at.ensures.on;
      inside = omega (arith, c.next-at.ensures.inside, c.len-n.ensures);
      room = c.put.ensures.room ∙ c.steps.invariant.room;
    }

pub returns-clause-stored : goal.returns-clause-stored
returns-clause-stored g c =
    let old : List Cell = g.Self.Cells.content c.args.self.now in
    let all : c.reach-steps-end.result ≡ c.steps.steps = omega arith in
    c.steps.invariant.stored
    ∙ repeat_done old c.args.b c.args.stop c.steps.steps c.args.character c.requires.inside
    (sym all ∙ c.reach-steps-end.ensures.steps ∙ ap (λ n. cond (eqb c.args.b c.args.stop) n (ring_distance n c.args.b c.args.stop)) c.len-n.ensures)
