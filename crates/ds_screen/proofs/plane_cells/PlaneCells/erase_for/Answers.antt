use Rattle.std.proofs.Common.{◌≡◌, ◌<◌, ◌≤◌, ◌+◌, ℕ, not, true, List, length, refl, sym, ◌∙◌, ap, arith}
use Rattle.ds_codec.specs.declared.cell.Cell.{Cell}
use Rattle.ds_codec.specs.Attribute.{is_protected}
use Rattle.ds_screen.specs.Ring.{ring_on, ring_back}
use Rattle.ds_screen.specs.Picture.{cell_at, ruled}
use Rattle.ds_screen.specs.Fields.{is_attribute, ruling_bits, ruling_after}
use Rattle.ds_screen.specs.Planes.{Held, HasNone, stretch_cell, erased_for}
use Rattle.ds_screen.proofs.RingLaws.{on-zero}
use Rattle.ds_screen.proofs.RuledLaws.{length-ruled, walked_cell, walk_none, length_walked, place_more, place_before}
use Rattle.ds_screen.proofs.EraseLaws.{nulled_open}
use Rattle.ds_screen.proofs.FieldLaws.{ruling_more}
use Rattle.ds_screen.proofs.StretchLaws.{on_sum, own_rule, nulled_attribute, nulled_same, stretch_before, nulled_one, stretch_stored}
use Rattle.ds_screen.proofs.plane_cells.PlaneCells.erase_for.Goals as goal

pub runs-init : goal.runs-init
runs-init c =
    let cells : List Cell = c.args.self.now.cells in
    let len : c.len-n.result ≡ length cells = c.len-n.ensures.count ∙ ap (λ (u : Held). length u.cells) c.self.view_is in
    record {
      room = refl;
      whole = refl;
      stored = walk_none cells c.args.b (nulled_open cells);
      at = sym (on-zero (length cells) c.args.b c.requires.inside);
      inside = c.requires.inside;
      few = omega arith;
      ruled_by = c.ruling_at-bits.ensures ∙ ap (ruling_bits cells) (c.previous.ensures.back ∙ ap (λ n. ring_back n c.args.b 1) len);
    }

pub characters_from-run-requires-clause-inside : goal.characters_from-run-requires-clause-inside
characters_from-run-requires-clause-inside c = omega (arith, c.runs.invariant.inside, c.runs.invariant.whole)

pub characters_from-run-requires-clause-few : goal.characters_from-run-requires-clause-few
characters_from-run-requires-clause-few c = omega (arith, c.requires.few, c.runs.invariant.whole)

pub null_stretch-requires-clause-inside : goal.null_stretch-requires-clause-inside
null_stretch-requires-clause-inside c = omega (arith, c.runs.invariant.inside, c.runs.invariant.whole)

pub null_stretch-requires-clause-few : goal.null_stretch-requires-clause-few
null_stretch-requires-clause-few c = omega (arith, c.characters_from-run.ensures.within, c.requires.few, c.runs.invariant.whole)

pub returns-then-gone-steps : goal.returns-then-gone-steps
returns-then-gone-steps c =
    let cells : List Cell = c.args.self.now.cells in
    let n : ℕ = length cells in
    let run : ℕ = c.characters_from-run.result in
    let few : c.runs.gone + run ≤ n = omega (arith, c.characters_from-run.ensures.within, c.requires.few, c.runs-test.true) in
    let none : HasNone cells c.runs.at run =
    stretch_before cells c.runs.self.cells c.args.b c.runs.gone c.runs.at run c.runs.invariant.stored c.runs.invariant.inside (omega (arith, few)) c.characters_from-run.ensures.characters in
    let stored : c.null_stretch.new.self.cells ≡ ruled n (walked_cell cells c.args.b (c.runs.gone + run) (nulled_open cells)) =
    stretch_stored cells c.runs.self.cells c.null_stretch.new.self.cells c.args.b c.runs.gone c.runs.at run c.runs.bits c.requires.inside (omega (arith, c.requires.few, c.runs-test.true)) few
    c.runs.invariant.at c.runs.invariant.stored none c.runs.invariant.ruled_by (ap (λ (u : Held). u.cells) c.null_stretch.ensures.nulled) in
    let room = ap (λ (u : Held). u.room) c.null_stretch.ensures.nulled ∙ c.runs.invariant.room in
    record {
      erased =
          ap (λ l. let h : Held = record { cells = l; room = c.null_stretch.new.self.room } in h)
          (stored ∙ ap (λ k. ruled n (walked_cell cells c.args.b k (nulled_open cells))) c.if-gone-steps.true)
          ∙ ap (λ r. let h : Held = record { cells = ruled n (erased_for cells c.args.b c.args.steps); room = r } in h) room;
    }

pub forward-stop-requires-clause-inside : goal.forward-stop-requires-clause-inside
forward-stop-requires-clause-inside c =
    omega (arith, c.runs.invariant.inside, c.len-n.ensures.count, ap (λ (u : Held). length u.cells) c.self.view_is)

pub cell-requires : goal.cell-requires
cell-requires c =
    omega (
      arith,
      c.forward-stop.ensures.inside,
      c.len-n.ensures.count,
      ap (λ (u : Held). length u.cells) c.self.view_is,
      ap (λ (u : Held). length u.cells) c.null_stretch.ensures.nulled,
      length-ruled (length c.runs.self.cells) (stretch_cell c.runs.self.cells c.runs.at c.characters_from-run.result (not (is_protected c.runs.bits))),
      c.runs.invariant.whole,
    )

pub runs-preserved : goal.runs-preserved
runs-preserved c =
    let cells : List Cell = c.args.self.now.cells in
    let n : ℕ = length cells in
    let len : c.len-n.result ≡ n = c.len-n.ensures.count ∙ ap (λ (u : Held). length u.cells) c.self.view_is in
    let run : ℕ = c.characters_from-run.result in
    let gone : ℕ = c.runs.gone in
    let few : gone + run ≤ n = omega (arith, c.characters_from-run.ensures.within, c.requires.few, c.runs-test.true) in
    let more : gone + run < n = omega (arith, c.characters_from-run.ensures.within, c.requires.few, c.runs-test.true, c.if-gone-steps.false) in
    let none : HasNone cells c.runs.at run =
    stretch_before cells c.runs.self.cells c.args.b gone c.runs.at run c.runs.invariant.stored c.runs.invariant.inside (omega (arith, few)) c.characters_from-run.ensures.characters in
    let stored : c.null_stretch.new.self.cells ≡ ruled n (walked_cell cells c.args.b (gone + run) (nulled_open cells)) =
    stretch_stored cells c.runs.self.cells c.null_stretch.new.self.cells c.args.b gone c.runs.at run c.runs.bits c.requires.inside (omega (arith, c.requires.few, c.runs-test.true)) few
    c.runs.invariant.at c.runs.invariant.stored none c.runs.invariant.ruled_by (ap (λ (u : Held). u.cells) c.null_stretch.ensures.nulled) in
    let stop : ℕ = c.forward-stop.result in
    let stands : stop ≡ ring_on n c.runs.at run = c.forward-stop.ensures.on ∙ ap (λ m. ring_on m c.runs.at run) len in
    let inside : stop < n = omega (arith, c.forward-stop.ensures.inside, len) in
    let ends : is_attribute (cell_at c.runs.self.cells (ring_on (length c.runs.self.cells) c.runs.at run)) ≡ true =
    c.characters_from-run.ensures.ends (omega (arith, c.characters_from-run.ensures.within, c.runs-test.true, c.if-gone-steps.false)) in
    let there : is_attribute (cell_at cells stop) ≡ true =
    sym (nulled_attribute cells c.args.b gone stop inside) ∙ ap (λ l. is_attribute (cell_at l stop)) (sym c.runs.invariant.stored)
    ∙ ap (λ q. is_attribute (cell_at c.runs.self.cells q)) (stands ∙ ap (λ m. ring_on m c.runs.at run) (sym c.runs.invariant.whole)) ∙ ends in
    let here : stop ≡ ring_on n c.args.b (gone + run) =
    stands ∙ ap (λ q. ring_on n q run) c.runs.invariant.at ∙ on_sum n c.args.b gone run c.requires.inside few in
    let same : cell_at c.null_stretch.new.self.cells stop ≡ cell_at cells stop =
    ap (λ l. cell_at l stop) stored ∙ nulled_same cells c.args.b (gone + run) stop inside there in
    let bits : c.ruled_on-bits.result ≡ ruling_bits cells stop =
    c.ruled_on-bits.ensures ∙ ap (ruling_after c.runs.bits) (c.cell.ensures ∙ same)
    ∙ own_rule c.runs.bits (ruling_bits cells (ring_back n stop 1)) (cell_at cells stop) there ∙ sym (ruling_more cells stop inside) in
    let after = stored ∙ nulled_one cells c.args.b (gone + run) stop c.requires.inside more here there in
    record {
      room = ap (λ (u : Held). u.room) c.null_stretch.ensures.nulled ∙ c.runs.invariant.room;
      whole = length_walked cells c.args.b (gone + run + 1) (nulled_open cells) c.null_stretch.new.self.cells after;
      stored = after;
      at = place_more n c.len-n.result c.args.b (gone + run) stop c.next-at.result c.requires.inside more len here c.next-at.ensures.on;
      inside = omega (arith, c.next-at.ensures.inside, len);
      few = omega (arith, c.characters_from-run.ensures.within, c.runs-test.true, c.if-gone-steps.false);
      ruled_by = bits ∙ ap (ruling_bits cells) (sym (place_before n c.len-n.result stop c.next-at.result inside len c.next-at.ensures.on));
    }

pub returns : goal.returns
returns c =
    let cells : List Cell = c.args.self.now.cells in
    let n : ℕ = length cells in
    let all : c.runs.gone ≡ c.args.steps = omega (arith, c.runs-test.false, c.runs.invariant.few) in
    record {
      erased =
          ap (λ l. let h : Held = record { cells = l; room = c.runs.self.room } in h)
          (c.runs.invariant.stored ∙ ap (λ k. ruled n (walked_cell cells c.args.b k (nulled_open cells))) all)
          ∙ ap (λ r. let h : Held = record { cells = ruled n (erased_for cells c.args.b c.args.steps); room = r } in h) c.runs.invariant.room;
    }
