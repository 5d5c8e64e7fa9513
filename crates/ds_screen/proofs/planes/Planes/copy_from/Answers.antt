use Rattle.std.proofs.Common.{rules, ◌≡◌, length, get_or, sym, ◌∙◌, ap, arith}
use Rattle.ds_screen.specs.declared.stored.Kind.TheVariants.{Plain}
use Rattle.ds_screen.specs.Planes.{Held, is_storable}
use Rattle.ds_screen.proofs.PlaneLaws.{counted}
use Rattle.ds_screen.proofs.planes.Planes.copy_from.Goals as goal

pub unwrap-requires : goal.unwrap-requires
unwrap-requires c =
    c.extend_from_slice.ensures.succeeds
    (omega (
      arith,
      counted c.other.inside.codes.items c.other.inside.kinds.items c.other.inside.limit c.args.other.now c.other.view_is,
      ap length c.as_slice.ensures.value,
      c.clear.ensures.len,
      c.clear.ensures.capacity,
      c.requires,
      c.self.invariant.2,
      ap (λ (u : Held). u.room) c.self.view_is,
    ))

pub unwrap-requires-2 : goal.unwrap-requires-2
unwrap-requires-2 c =
    c.extend_from_slice-2.ensures.succeeds
    (omega (
      arith,
      counted c.other.inside.codes.items c.other.inside.kinds.items c.other.inside.limit c.args.other.now c.other.view_is,
      c.other.invariant.0.same,
      ap length c.as_slice-2.ensures.value,
      c.clear-2.ensures.len,
      c.clear-2.ensures.capacity,
      c.requires,
      c.self.invariant.3,
      ap (λ (u : Held). u.room) c.self.view_is,
    ))

pub invariant_of-self : goal.invariant_of-self
invariant_of-self c =
    let codes : c.extend_from_slice.new.self.items ≡ c.other.inside.codes.items = search rules in
    let kinds : c.extend_from_slice-2.new.self.items ≡ c.other.inside.kinds.items = search rules in (
      record {
        same = ap length kinds ∙ c.other.invariant.0.same ∙ sym (ap length codes);
        each = λ p lt.
            ap (λ l. is_storable (get_or l p Plain) (get_or c.extend_from_slice.new.self.items p 0)) kinds
            ∙ ap (λ l. is_storable (get_or c.other.inside.kinds.items p Plain) (get_or l p 0)) codes
            ∙ c.other.invariant.0.each p (omega (arith, ap length codes));
      },
      omega (arith, ap length codes, counted c.other.inside.codes.items c.other.inside.kinds.items c.other.inside.limit c.args.other.now c.other.view_is, c.requires, ap (λ (u : Held). u.room) c.self.view_is),
      omega (arith, c.extend_from_slice.ensures.capacity, c.clear.ensures.capacity, c.self.invariant.2),
      omega (arith, c.extend_from_slice-2.ensures.capacity, c.clear-2.ensures.capacity, c.self.invariant.3),
      λ all p. ap (λ l. get_or l p Plain) kinds ∙ c.other.invariant.4 all p,
    )
