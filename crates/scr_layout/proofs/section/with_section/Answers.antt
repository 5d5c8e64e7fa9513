use Rattle.std.proofs.Common.{Ok, string_bytes, refl, sym, subst, ap, ◌∙◌}
use Rattle.scr_layout.specs.Entry.{Declared}
use Rattle.scr_layout.specs.Rows.{step_of}
use Rattle.scr_layout.specs.Section.{members_of, IsSaid}
use Rattle.scr_layout.proofs.SectionLaws.{said_table, said_one, told_as}
use Rattle.scr_layout.proofs.section.with_section.Goals as goal

pub returns-then-is_some : goal.returns-then-is_some
returns-then-is_some c =
    let said = c.in-Some.said in
    told_as _ _
    (λ listed told. said_table c.args.version c.args.size c.args.before (members_of c.args.section.now) said.name.now said.rows said.place said.length said.kind told.0
    (step_of c.args.size said.rows) listed c.in-Some.ensures told.1 refl told.2 told.3)
    c.with_rows.result c.with_rows.ensures

pub returns : goal.returns
returns c =
    let said = c.in-Some.said in
    let entry : Declared = record { name = string_bytes c.in_ok-from_str.field-0; place = said.place; length = said.length; kind = said.kind } in
    let is = subst (λ name. IsSaid c.args.version c.args.size (members_of c.args.section.now) name said.rows said.place said.length said.kind)
    (sym c.in_ok-from_str.ensures.ok) c.in-Some.ensures in
    told_as _ _
    (λ listed told. said_one c.args.version c.args.size c.args.before (members_of c.args.section.now) said.rows entry is (sym c.is_some.ensures ∙ c.if-is_some.false) told.0 told.1 told.2
    ∙ ap Ok (sym told.3))
    c.with_entry.result c.with_entry.ensures
