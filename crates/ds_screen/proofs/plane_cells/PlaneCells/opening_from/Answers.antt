use Rattle.std.proofs.Common.{◌≡◌, false, true, length, sym, ◌∙◌, ap, arith}
use Rattle.ds_screen.specs.Ring.{ring_on}
use Rattle.ds_screen.specs.Picture.{cell_at}
use Rattle.ds_screen.specs.Fields.{is_attribute}
use Rattle.ds_screen.specs.Planes.{Held}
use Rattle.ds_screen.proofs.StartLaws.{opening_found, opening_more, opening_none}
use Rattle.ds_screen.proofs.plane_cells.PlaneCells.opening_from.Goals as goal

pub next-requires : goal.next-requires
next-requires c =
    omega (arith, c.in-Some.ensures.1, ap (λ (u : Held). length u.cells) c.self.view_is, c.len-n.ensures.count)

pub has_attribute-requires : goal.has_attribute-requires
has_attribute-requires c = omega (arith, c.next.ensures.inside, c.len-n.ensures.count)

pub returns-then-not-has_attribute : goal.returns-then-not-has_attribute
returns-then-not-has_attribute c =
    let cells = c.args.self.now.cells in
    let place : c.next.result ≡ ring_on (length cells) c.in-Some.q 1 = c.next.ensures.on ∙ ap (λ n. ring_on n c.in-Some.q 1) (c.len-n.ensures.count ∙ ap (λ (u : Held). length u.cells) c.self.view_is) in
    let free : is_attribute (cell_at cells (ring_on (length cells) c.in-Some.q 1)) ≡ false =
    ap (λ p. is_attribute (cell_at cells p)) (sym place) ∙ sym (c.has_attribute.ensures ∙ ap (λ (u : Held). is_attribute (cell_at u.cells c.next.result)) c.self.view_is) ∙ c.if-not-has_attribute.true in
    opening_found cells c.args.from c.openings.at c.in-Some.q c.openings.invariant.order c.in-Some.ensures c.openings.invariant.misses free

pub overflow_add-at : goal.overflow_add-at
overflow_add-at c =
    omega (arith, c.in-Some.ensures.1, ap (λ (u : Held). length u.cells) c.self.view_is, c.len-n.ensures.count, c.len-n.type_inv)

pub openings-preserved : goal.openings-preserved
openings-preserved c =
    let cells = c.args.self.now.cells in
    let place : c.next.result ≡ ring_on (length cells) c.in-Some.q 1 = c.next.ensures.on ∙ ap (λ n. ring_on n c.in-Some.q 1) (c.len-n.ensures.count ∙ ap (λ (u : Held). length u.cells) c.self.view_is) in
    let shut : is_attribute (cell_at cells (ring_on (length cells) c.in-Some.q 1)) ≡ true =
    ap (λ p. is_attribute (cell_at cells p)) (sym place) ∙ sym (c.has_attribute.ensures ∙ ap (λ (u : Held). is_attribute (cell_at u.cells c.next.result)) c.self.view_is) ∙ c.if-not-has_attribute.false in
    record {
      order = omega (arith, c.openings.invariant.order, c.in-Some.ensures.0);
      misses = opening_more cells c.args.from c.openings.at c.in-Some.q c.in-Some.ensures c.openings.invariant.misses shut;
    }

pub openings-smaller : goal.openings-smaller
openings-smaller c =
    omega (arith, c.in-Some.ensures.1, ap (λ (u : Held). length u.cells) c.self.view_is, ap (λ (u : Held). length u.cells) c.self.view_is, c.in-Some.ensures.0)

pub returns : goal.returns
returns c =
    let cells = c.args.self.now.cells in
    opening_none cells c.args.from c.openings.at c.in_default.ensures c.openings.invariant.misses
