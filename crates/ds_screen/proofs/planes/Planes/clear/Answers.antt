use Rattle.std.proofs.Common.{rules, ◌≡◌, ℕ, replicate, get_or, length, ◌∙◌, ap, arith}
use Rattle.std.proofs.lemmas.List.{length-replicate}
use Rattle.ds_screen.specs.declared.stored.Kind.TheVariants.{Plain}
use Rattle.ds_screen.specs.Picture.{blank}
use Rattle.ds_screen.specs.Planes.{Held}
use Rattle.ds_screen.proofs.PlaneLaws.{planes_blank, are_blank, all_plain}
use Rattle.ds_screen.proofs.planes.Planes.clear.Goals as goal

pub invariant_of-self : goal.invariant_of-self
invariant_of-self c =
    let zeros : c.resize.new.self.items ≡ replicate c.args.n 0 = search rules in
    let plain : c.resize-2.new.self.items ≡ replicate c.args.n Plain = search rules in (
      are_blank c.resize.new.self.items c.resize-2.new.self.items c.args.n zeros plain,
      omega (arith, ap length zeros, length-replicate {A = ℕ} c.args.n 0, c.requires, ap (λ (u : Held). u.room) c.self.view_is),
      omega (arith, c.resize.ensures.capacity, c.clear.ensures.capacity, c.self.invariant.2),
      omega (arith, c.resize-2.ensures.capacity, c.clear-2.ensures.capacity, c.self.invariant.3),
      λ always p. ap (λ l. get_or l p Plain) plain ∙ all_plain c.args.n p,
    )

pub returns : goal.returns
returns c =
    let zeros : c.resize.new.self.items ≡ replicate c.args.n 0 = search rules in
    let plain : c.resize-2.new.self.items ≡ replicate c.args.n Plain = search rules in
    let cells = planes_blank c.resize.new.self.items c.resize-2.new.self.items c.args.n zeros plain in
    record {
      nulls =
          ap (λ l. let h : Held = record { cells = l; room = c.self.inside.limit } in h) cells
          ∙ ap (λ r. let h : Held = record { cells = replicate c.args.n blank; room = r } in h) (ap (λ (u : Held). u.room) c.self.view_is);
    }
