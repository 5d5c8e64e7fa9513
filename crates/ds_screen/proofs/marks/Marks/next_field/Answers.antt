use Rattle.std.proofs.Common.{◌≡◌, ◌+◌, ◌∷◌, List, Some, sym, subst}
use Rattle.ds_codec.specs.declared.cell.Cell.{Cell}
use Rattle.ds_places.specs.Nearest.{IsFirstFrom}
use Rattle.ds_screen.specs.Fields.{attributes_from, field_at}
use Rattle.ds_screen.specs.Marks.{place_of, IsKept, IsMarked, bare_cells}
use Rattle.ds_screen.proofs.MarkLaws.{first_there, first_never, held_there}
use Rattle.ds_screen.proofs.OutlineFieldLaws.{bare_marked, attributes_first, attributes_none}
use Rattle.ds_screen.proofs.marks.Marks.next_field.Goals as goal

pub returns-in_default-clause-first : goal.returns-in_default-clause-first
returns-in_default-clause-first c =
    let kept : IsKept c.args.self.now = subst IsKept c.self.view_is c.self.invariant.0 in
    let cells : List Cell = bare_cells c.args.self.now in
    let shown : IsMarked c.args.self.now cells = bare_marked c.args.self.now kept.inside in
    attributes_none cells c.args.from (first_never c.args.self.now cells c.args.from shown (subst (λ m. IsFirstFrom place_of c.args.self.now.marks c.args.from m) c.in_default.is c.requires))

pub returns-clause-first : goal.returns-clause-first
returns-clause-first c =
    let kept : IsKept c.args.self.now = subst IsKept c.self.view_is c.self.invariant.0 in
    let cells : List Cell = bare_cells c.args.self.now in
    let shown : IsMarked c.args.self.now cells = bare_marked c.args.self.now kept.inside in
    let found : IsFirstFrom place_of c.args.self.now.marks c.args.from (Some c.in-Some.mark) = subst (λ m. IsFirstFrom place_of c.args.self.now.marks c.args.from m) c.in-Some.is c.requires in
    let first = first_there c.args.self.now cells c.args.from c.in-Some.mark shown found in
    let is = c.field_of-field.ensures.field cells shown (held_there c.args.self.now cells c.in-Some.mark.at c.in-Some.mark shown found.1).0 in
    subst (λ q. (attributes_from cells c.args.from ≡ q ∷ attributes_from cells (q + 1)) × (c.field_of-field.result ≡ field_at cells q)) (sym c.field_of-field.ensures.at)
    (attributes_first cells c.args.from c.in-Some.mark.at first.ahead first.inside first.misses first.hit, is)
