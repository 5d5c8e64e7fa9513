use Rattle.std.proofs.Common.{◌≡◌, [], ◌∷◌, ◌++◌, length, refl, sym, ◌∙◌, ap, subst}
use Rattle.ds_codec.specs.Order.{Site, site_of}
use Rattle.ds_screen.specs.Writes.{writes_at, order_writes}
use Rattle.ds_screen.specs.State.{writing, HaveCharacters}
use Rattle.ds_screen.specs.Surface.{IsOn}
use Rattle.ds_screen.proofs.ActLaws.{orders_characters}
use Rattle.ds_screen.proofs.WriteLaws.{writes_on, writes_stop, writes_end}
use Rattle.ds_screen.proofs.writes.add_order_writes.Goals as goal

pub orders-init : goal.orders-init
orders-init g c =
    let same : c.into_iter-placed-iterator.result ≡ c.args.outbound.now.orders = c.into_iter-placed-iterator.ensures.into_iter_gives ∙ c.orders-placed-items.ensures.all in
    record {
      rest = λ cells shown. (cells, shown, ap (λ sites. c.args.writes.now.items ++ order_writes sites (writing cells c.args.start)) same);
      characters = subst HaveCharacters (sym same) (orders_characters c.args.outbound.now.orders c.orders-placed-items.ensures.spelled);
      inside = c.requires;
      whole = refl;
      room = refl;
    }

pub act-requires : goal.act-requires
act-requires g c =
    let split : c.orders.placed-iterator ≡ site_of c.in-Some.placed ∷ c.next.new.self = c.in-Some.ensures.steps in
    record {
      inside = subst (λ n. IsOn n c.orders.state) (sym c.orders.invariant.whole) c.orders.invariant.inside;
      characters = (subst HaveCharacters split c.orders.invariant.characters).0;
    }

pub orders-preserved : goal.orders-preserved
orders-preserved g c =
    let site : Site = site_of c.in-Some.placed in
    let split : c.orders.placed-iterator ≡ site ∷ c.next.new.self = c.in-Some.ensures.steps in
    record {
      rest = λ cells shown.
          let before = c.orders.invariant.rest cells shown in
          let after = c.in-Ok.ensures.acts before.0 before.1 in
          let positions : length before.0 ≡ c.positions-n.result = g.met.S.Surface.sized c.orders.surface before.0 before.1 ∙ c.orders.invariant.whole ∙ sym c.positions-n.ensures in
          let added : c.add_write.new.writes.items ≡ c.orders.writes.items ++ writes_at site (length before.0) c.orders.state.address =
          subst (λ n. c.add_write.new.writes.items ≡ c.orders.writes.items ++ writes_at site n c.orders.state.address) (sym positions) c.in_ok-add_write-in-Ok.ensures in (
            after.0,
            after.1,
            writes_on site c.next.new.self (writing before.0 c.orders.state) (writing after.0 c.in-Ok.after) c.orders.writes.items c.add_write.new.writes.items after.2 added
                ∙ ap (λ sites. c.orders.writes.items ++ order_writes sites (writing before.0 c.orders.state)) (sym split) ∙ before.2,
          );
      characters = (subst HaveCharacters split c.orders.invariant.characters).1;
      inside = subst (λ n. IsOn n c.in-Ok.after) c.orders.invariant.whole c.in-Ok.ensures.inside;
      whole = c.in-Ok.ensures.whole ∙ c.orders.invariant.whole;
      room = c.in-Ok.ensures.room ∙ c.orders.invariant.room;
    }

pub returns-in-Err-clause-added : goal.returns-in-Err-clause-added
returns-in-Err-clause-added g c =
    let site : Site = site_of c.in-Some.placed in
    let split : c.orders.placed-iterator ≡ site ∷ c.next.new.self = c.in-Some.ensures.steps in
    λ cells shown.
    let before = c.orders.invariant.rest cells shown in
    sym (writes_stop site c.next.new.self (writing before.0 c.orders.state) c.in-Err.field-0 c.orders.writes.items (c.in-Err.ensures.refused before.0 before.1))
    ∙ ap (λ sites. c.orders.writes.items ++ order_writes sites (writing before.0 c.orders.state)) (sym split) ∙ before.2

pub returns-clause-added : goal.returns-clause-added
returns-clause-added g c =
    let none : c.orders.placed-iterator ≡ [] = c.in-None.ensures.steps.0 in
    λ cells shown.
    let before = c.orders.invariant.rest cells shown in
    sym (writes_end (writing before.0 c.orders.state) c.orders.writes.items)
    ∙ ap (λ sites. c.orders.writes.items ++ order_writes sites (writing before.0 c.orders.state)) (sym none) ∙ before.2

pub returns-in-Err-clause-characters : goal.returns-in-Err-clause-characters
returns-in-Err-clause-characters g c = orders_characters c.args.outbound.now.orders c.orders-placed-items.ensures.spelled

pub returns-clause-characters : goal.returns-clause-characters
returns-clause-characters g c = orders_characters c.args.outbound.now.orders c.orders-placed-items.ensures.spelled

pub returns-in_err-add_write-in-Ok-clause-characters : goal.returns-in_err-add_write-in-Ok-clause-characters
returns-in_err-add_write-in-Ok-clause-characters g c = orders_characters c.args.outbound.now.orders c.orders-placed-items.ensures.spelled
