use Rattle.std.proofs.Common.{refl, rules, arith}
use Rattle.toml.specs.View.{view}
use Rattle.plain_tables.proofs.Laws.{put_goes_on, both_go_on}
use Rattle.scr_layout.specs.Section.{members_of}
use Rattle.scr_layout.proofs.plain.field_pairs.Goals as goal

pub pairs-init : goal.pairs-init
pairs-init c = (c.utf8.s, (omega arith, λ around section place n few. (n, few, refl)))

pub returns-in_default : goal.returns-in_default
returns-in_default c = c.pairs.invariant.1

pub pairs-smaller : goal.pairs-smaller
pairs-smaller c =
    let read = rw c.in-Some.is at c.in_ok-found.ensures in
    omega (arith, read.1, c.skip_blank.ensures.within)

pub pairs-preserved : goal.pairs-preserved
pairs-preserved c =
    let l = c.pairs in
    let key = c.in-Some.found.0.now in
    let within = rw c.skip_blank.ensures.rest at c.skip_blank.ensures.within in
    let (read, shorter) = rw (c.in-Some.is, c.skip_blank.ensures.rest) at c.in_ok-found.ensures in
    let put = c.put.ensures c.if-not-put.false in
    let before = members_of l.section in
    let now = members_of c.put.new.self in (
      search rules,
      both_go_on _ before now _ _ _ l.invariant.1 (put_goes_on before now key (view c.in-Some.found.1) l.rest.now c.in-Some.after.now read shorter within put),
    )
