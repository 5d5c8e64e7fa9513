use Rattle.std.proofs.Common.{◌≡◌, ◌<◌, ℕ, ◌+◌, ◌%◌, true, false, List, length, get_or, refl, sym, ◌∙◌, ap, arith, Some}
use Rattle.std.proofs.Math.Nat.{mod-eq_of_lt}
use Rattle.std.proofs.lemmas.Bool.{cond-true}
use Rattle.ds_codec.specs.declared.cell.Cell.{Cell}
use Rattle.ds_codec.specs.Character.{is_text, glyph}
use Rattle.ds_screen.specs.Ring.{ring_on}
use Rattle.ds_screen.specs.Picture.{ruled}
use Rattle.ds_screen.proofs.RuledLaws.{length-ruled}
use Rattle.ds_screen.proofs.RunLaws.{run_cell, run_none, run_step, run_all, list_all_true, mod_next}
use Rattle.ds_screen.proofs.cells.Cells.put_text.Goals as goal

pub bytes-init : goal.bytes-init
bytes-init g c =
    let old : List Cell = g.Self.Cells.content c.args.self.now in
    record {
      stored = run_none old c.args.b c.args.run.now;
      whole = refl;
      at = sym (ap (λ x. x % length old) (omega arith) ∙ mod-eq_of_lt c.requires.inside);
      inside = c.requires.inside;
      room = refl;
    }

pub put-requires : goal.put-requires
put-requires g c = omega (arith, c.bytes.invariant.whole, c.bytes.invariant.inside)

pub bytes-preserved : goal.bytes-preserved
bytes-preserved g c =
    let old : List Cell = g.Self.Cells.content c.args.self.now in
    let run : List ℕ = c.args.run.now in
    let k : ℕ = c.bytes.byte-index in
    let some : 0 < length old = omega (arith, c.requires.inside) in
    let known : is_text (get_or run k 0) ≡ true = list_all_true is_text run k 0 c.requires.characters (omega arith) in
    let made : Some c.unwrap-character.result ≡ Some (glyph (get_or run k 0) false) =
    sym c.unwrap-character.ensures ∙ c.new.ensures ∙ cond-true (is_text (get_or run k 0)) _ _ known in
    let character : c.unwrap-character.result ≡ glyph (get_or run k 0) false = cc in
    let stored : g.Self.Cells.content c.put.new.self ≡ ruled (length old) (run_cell old c.args.b run (k + 1)) =
    run_step old c.args.b run k c.bytes.at (g.Self.Cells.content c.bytes.self) (g.Self.Cells.content c.put.new.self) c.unwrap-character.result some
    c.bytes.invariant.at c.bytes.invariant.stored character c.put.ensures.stored in
    record {
      stored = stored;
      whole = ap length stored ∙ length-ruled (length old) (run_cell old c.args.b run (k + 1));
      at = c.next-at.ensures.on ∙ ap (λ n. ring_on n c.bytes.at 1) c.len-n.ensures ∙ ap (λ q. ring_on (length old) q 1) c.bytes.invariant.at
          ∙ mod_next (length old) (c.args.b + k) some ∙ ap (λ x. x % length old) (omega arith);
      inside = omega (arith, c.next-at.ensures.inside, c.len-n.ensures);
      room = c.put.ensures.room ∙ c.bytes.invariant.room;
    }

pub returns-clause-stored : goal.returns-clause-stored
returns-clause-stored g c =
    let old : List Cell = g.Self.Cells.content c.args.self.now in
    let all : c.bytes.byte-index ≡ length c.args.run.now = omega arith in
    c.bytes.invariant.stored ∙ ap (λ k. ruled (length old) (run_cell old c.args.b c.args.run.now k)) all ∙ run_all old c.args.b c.args.run.now
