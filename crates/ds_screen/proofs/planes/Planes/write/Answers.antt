use Rattle.std.proofs.Common.{◌≡◌, length, get_or, cond, ◌+◌, ◌-◌, ◌&&◌, leb, ltb, take, drop, ◌++◌, sym, ◌∙◌, ap, subst, arith}
use Rattle.ds_screen.specs.declared.stored.Kind.TheVariants.{Plain}
use Rattle.ds_screen.specs.Picture.{ruled}
use Rattle.ds_screen.specs.Planes.{Held, ArePlanes, plane_cells, written_cell}
use Rattle.ds_screen.proofs.PlaneLaws.{counted, given_back, written_storable, planes_written}
use Rattle.ds_screen.proofs.planes.Planes.write.Goals as goal

pub copy_part-requires-clause-inside : goal.copy_part-requires-clause-inside
copy_part-requires-clause-inside c =
    omega (arith, c.requires.inside, ap length c.deref_mut.ensures.value, counted c.self.inside.codes.items c.self.inside.kinds.items c.self.inside.limit c.args.self.now c.self.view_is)

pub fill_kinds-plain-requires-clause-inside : goal.fill_kinds-plain-requires-clause-inside
fill_kinds-plain-requires-clause-inside c =
    omega (
      arith,
      c.requires.inside,
      ap length c.deref_mut-2.ensures.value,
      c.self.invariant.0.same,
      counted c.self.inside.codes.items c.self.inside.kinds.items c.self.inside.limit c.args.self.now c.self.view_is,
    )

pub invariant_of-self : goal.invariant_of-self
invariant_of-self c =
    let codes : take c.self.inside.codes.len (c.copy_part.new.items ++ drop (length c.copy_part.new.items) c.self.inside.codes.items) ≡ c.copy_part.new.items =
    given_back c.self.inside.codes.items c.copy_part.new.items c.self.inside.codes.len (omega (arith, c.deref_mut.ensures.len, ap length c.deref_mut.ensures.value))
    (c.copy_part.ensures.whole ∙ ap length c.deref_mut.ensures.value) in
    let kinds : take c.self.inside.kinds.len (c.fill_kinds-plain.new.kinds ++ drop (length c.fill_kinds-plain.new.kinds) c.self.inside.kinds.items) ≡ c.fill_kinds-plain.new.kinds =
    given_back c.self.inside.kinds.items c.fill_kinds-plain.new.kinds c.self.inside.kinds.len (omega (arith, c.deref_mut-2.ensures.len, ap length c.deref_mut-2.ensures.value))
    (c.fill_kinds-plain.ensures.whole ∙ ap length c.deref_mut-2.ensures.value) in
    let planes : ArePlanes c.copy_part.new.items c.fill_kinds-plain.new.kinds =
    written_storable c.self.inside.codes.items c.copy_part.new.items c.args.run.now c.self.inside.kinds.items c.fill_kinds-plain.new.kinds c.args.at c.args.from c.args.count
    c.self.invariant.0 c.requires.characters c.requires.within
    (c.copy_part.ensures.whole ∙ ap length c.deref_mut.ensures.value) (c.fill_kinds-plain.ensures.whole ∙ ap length c.deref_mut-2.ensures.value)
    (λ q d. c.copy_part.ensures.each q d ∙ ap (λ l. cond (leb c.args.at q && ltb q (c.args.at + c.args.count)) (get_or c.args.run.now (c.args.from + (q - c.args.at)) 0) (get_or l q d)) c.deref_mut.ensures.value)
    (λ q d. c.fill_kinds-plain.ensures.each q d ∙ ap (λ l. cond (leb c.args.at q && ltb q (c.args.at + c.args.count)) Plain (get_or l q d)) c.deref_mut-2.ensures.value) in (
      subst (λ l. ArePlanes l (take c.self.inside.kinds.len (c.fill_kinds-plain.new.kinds ++ drop (length c.fill_kinds-plain.new.kinds) c.self.inside.kinds.items))) (sym codes) (subst (ArePlanes c.copy_part.new.items) (sym kinds) planes),
      omega (arith, ap length codes, c.copy_part.ensures.whole, ap length c.deref_mut.ensures.value, c.self.invariant.1),
      c.self.invariant.2,
      c.self.invariant.3,
      λ all p. ap (λ l. get_or l p Plain) kinds ∙ c.fill_kinds-plain.ensures.plain all p,
    )

pub returns : goal.returns
returns c =
    let codes : take c.self.inside.codes.len (c.copy_part.new.items ++ drop (length c.copy_part.new.items) c.self.inside.codes.items) ≡ c.copy_part.new.items =
    given_back c.self.inside.codes.items c.copy_part.new.items c.self.inside.codes.len (omega (arith, c.deref_mut.ensures.len, ap length c.deref_mut.ensures.value))
    (c.copy_part.ensures.whole ∙ ap length c.deref_mut.ensures.value) in
    let kinds : take c.self.inside.kinds.len (c.fill_kinds-plain.new.kinds ++ drop (length c.fill_kinds-plain.new.kinds) c.self.inside.kinds.items) ≡ c.fill_kinds-plain.new.kinds =
    given_back c.self.inside.kinds.items c.fill_kinds-plain.new.kinds c.self.inside.kinds.len (omega (arith, c.deref_mut-2.ensures.len, ap length c.deref_mut-2.ensures.value))
    (c.fill_kinds-plain.ensures.whole ∙ ap length c.deref_mut-2.ensures.value) in
    let cells =
    ap (λ l. plane_cells l (take c.self.inside.kinds.len (c.fill_kinds-plain.new.kinds ++ drop (length c.fill_kinds-plain.new.kinds) c.self.inside.kinds.items))) codes
    ∙ ap (plane_cells c.copy_part.new.items) kinds
    ∙ planes_written c.self.inside.codes.items c.copy_part.new.items c.args.run.now c.self.inside.kinds.items c.fill_kinds-plain.new.kinds c.args.at c.args.from c.args.count
    (c.copy_part.ensures.whole ∙ ap length c.deref_mut.ensures.value)
    (λ q d. c.copy_part.ensures.each q d ∙ ap (λ l. cond (leb c.args.at q && ltb q (c.args.at + c.args.count)) (get_or c.args.run.now (c.args.from + (q - c.args.at)) 0) (get_or l q d)) c.deref_mut.ensures.value)
    (λ q d. c.fill_kinds-plain.ensures.each q d ∙ ap (λ l. cond (leb c.args.at q && ltb q (c.args.at + c.args.count)) Plain (get_or l q d)) c.deref_mut-2.ensures.value)
    ∙ ap (λ (u : Held). ruled (length u.cells) (written_cell u.cells c.args.at c.args.run.now c.args.from c.args.count)) c.self.view_is in
    record {
      written =
          ap (λ l. let h : Held = record { cells = l; room = c.self.inside.limit } in h) cells
          ∙ ap (λ r. let h : Held = record { cells = ruled (length c.args.self.now.cells) (written_cell c.args.self.now.cells c.args.at c.args.run.now c.args.from c.args.count); room = r } in h)
          (ap (λ (u : Held). u.room) c.self.view_is);
    }

pub overflow_add-at : goal.overflow_add-at
overflow_add-at c =
    omega (arith, c.requires.inside, counted c.self.inside.codes.items c.self.inside.kinds.items c.self.inside.limit c.args.self.now c.self.view_is, c.self.invariant.1, c.self.ranges)
