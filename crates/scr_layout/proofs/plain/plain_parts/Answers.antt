use Rattle.std.proofs.Common.{◌≡◌, suc, ◌-◌, false, ◌==◌, [], Some, length, ap, ◌∙◌, arith}
use Rattle.std.proofs.lemmas.Bool.Decides.{nat_tests}
use Rattle.std.proofs.lemmas.Grind.{common_steps}
use Rattle.toml_parser.specs.Lexical.{first}
use Rattle.toml.specs.View.{table_view}
use Rattle.plain_tables.specs.Plain.{valued}
use Rattle.scr_layout.specs.declared.fault.LayoutKey.TheVariants.{Field}
use Rattle.scr_layout.specs.Fault.{key_text}
use Rattle.scr_layout.proofs.LayoutLaw.{screen-small}
use Rattle.plain_tables.proofs.Laws.{at_top, document_of, first_header}
use Rattle.scr_layout.proofs.FieldsLaws.{missing_node, says_all}
use Rattle.scr_layout.proofs.plain.plain_parts.Goals as goal

pub entries-requires : goal.entries-requires
entries-requires c =
    let is = c.in-Some-head_of.ensures.head in
    screen-small _ _ _ _ _ is.is_default is.is_alternate is.is_screen

pub returns-in-Some-2 : goal.returns-in-Some-2
unfolding valued
returns-in-Some-2 c =
    let text = c.args.text.now in
    let rest = c.in-Some.rest.now in
    let top = table_view c.pairs.new.table in
    let said = c.in-Some-head_of.ensures in
    let no_mark : (first text == 0xEF) ≡ false = grind (arith, nat_tests, common_steps) in
    let (within, goes_on) = rw (c.in-Some.is, c.new-top.ensures.empty) at c.in_ok-rest.ensures in
    let (m, room, so_far) = goes_on (λ ns. ns) [] at_top (suc (length text)) (omega arith) in
    let before = rw c.skip_blank.ensures.rest at c.skip_blank.ensures.within in
    let (read, shorter) = rw (c.skip_blank.ensures.rest, c.word.ensures) at c.in-Some-header.ensures in
    let (items, lined, tables, few, entries) = rw c.in-Some-2.is at c.in_ok-listed.ensures in
    let opened = first_header (key_text Field) top m rest c.in-Some-header.behind.now (missing_node (key_text Field) top said.alone) (omega (arith, room)) read shorter in
    let (doc, all_read, closed) = lined top (m - 1) (omega (arith, room, before, shorter)) in
    rw (document_of text doc no_mark (so_far ∙ opened ∙ all_read) ∙ ap Some closed)
    (says_all top items c.in-Some-head_of.head c.in-Some-2.listed said.alone said.head tables few entries)
