use Rattle.std.proofs.Common.{◌≡◌, string_bytes, refl, sym, ◌∙◌, rules, arith}
use Rattle.std.specs.BTreeMap.{insert_entry}
use Rattle.std.specs.String.{string_cmp}
use Rattle.toml.specs.View.{view, members_view}
use Rattle.plain_tables.proofs.Laws.{none_of, map_put, put_goes_on, both_go_on}
use Rattle.plain_tables.proofs.table.pairs.Goals as goal

pub pairs-init : goal.pairs-init
pairs-init c = (c.utf8.s, (omega arith, λ around section place n few. (n, few, refl)))

pub returns-in_default : goal.returns-in_default
returns-in_default c = c.pairs.invariant.1

pub pairs-smaller : goal.pairs-smaller
pairs-smaller c =
    let read = rw c.in-Some.is at c.in_ok-found.ensures in
    omega (arith, read.1, c.skip_blank.ensures.within)

pub pairs-preserved : goal.pairs-preserved
pairs-preserved c =
    let l = c.pairs in
    let key = c.in-Some.found.0.now in
    let value = c.in-Some.found.1 in
    let before = members_view l.table.entries in
    let now = members_view (insert_entry string_cmp l.table.entries c.in_ok-name.name value) in
    let within = rw c.skip_blank.ensures.rest at c.skip_blank.ensures.within in
    let (read, shorter) = rw (c.in-Some.is, c.skip_blank.ensures.rest) at c.in_ok-found.ensures in
    let same : string_bytes c.in_ok-name.name ≡ key = c.in_ok-name.ensures.ok in
    let missing = sym c.in_ok-insert.ensures.old ∙ none_of c.in_ok-insert.field-0 (sym c.if-is_some.ensures) in
    let put = map_put l.table.entries c.in_ok-name.name key value same missing in (
      search rules,
      rw c.in_ok-insert.ensures.entries
          (both_go_on _ before now _ _ _ l.invariant.1 (put_goes_on before now key (view value) l.rest.now c.in-Some.after.now read shorter within put)),
    )
