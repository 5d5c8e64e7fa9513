use Rattle.std.proofs.Common.{◌≡◌, ◌+◌, length, ap, ◌∙◌, refl, rules, arith}
use Rattle.std.proofs.lemmas.Grind.{common_steps}
use Rattle.toml_parser.specs.Lexical.{skip_blank}
use Rattle.toml.specs.Data.{table, no_items, push_item}
use Rattle.plain_tables.proofs.Laws.{none_done, one_done, all_done}
use Rattle.scr_layout.specs.declared.fault.LayoutKey.TheVariants.{Field}
use Rattle.scr_layout.specs.Fault.{key_text}
use Rattle.scr_layout.specs.Section.{members_of}
use Rattle.scr_layout.proofs.FieldsLaws.{no_entries, pushed_tables, pushed_count, pushed_entries}
use Rattle.scr_layout.proofs.plain.entries.Goals as goal

pub fields-init : goal.fields-init
fields-init c =
    (c.utf8.s, no_items, refl, refl, no_entries c.args.version c.args.size c.new-listed.result c.new-listed.ensures, none_done (key_text Field) c.args.s.now)

pub returns-then-is_empty : goal.returns-then-is_empty
returns-then-is_empty c =
    let l = c.fields in
    let (utf8, done, tables, count, read, so_far) = l.invariant in
    let after = c.in-Some.after.now in
    let last = members_of c.field_pairs.new.section in
    let goes_on = rw (c.in-Some.is, c.new-section.ensures) at c.in_ok-after.ensures in
    let more = rw c.in-Some-2.is at c.in_ok-more.ensures in
    let start_is = c.skip_blank-start.ensures.rest in
    let over : length (skip_blank after) ≡ 0 = grind (arith, common_steps) in (
      push_item done (table last),
      all_done (key_text Field) c.args.s.now l.rest.now after done last so_far goes_on over,
      pushed_tables done last ∙ tables,
      omega (arith, pushed_count done last, count, c.fields-test.true),
      pushed_entries c.args.version c.args.size done last l.listed c.in-Some-2.more read more,
    )

pub fields-preserved : goal.fields-preserved
fields-preserved c =
    let l = c.fields in
    let (utf8, done, tables, count, read, so_far) = l.invariant in
    let after = c.in-Some.after.now in
    let last = members_of c.field_pairs.new.section in
    let goes_on = rw (c.in-Some.is, c.new-section.ensures) at c.in_ok-after.ensures in
    let more = rw c.in-Some-2.is at c.in_ok-more.ensures in
    let within = rw c.skip_blank-start.ensures.rest at c.skip_blank-start.ensures.within in
    let (headed, behind_it) = rw (c.skip_blank-start.ensures.rest, c.word.ensures) at c.in-Some-header.ensures in (
      search rules,
      push_item done (table last),
      pushed_tables done last ∙ tables,
      pushed_count done last ∙ ap (λ n. n + 1) count,
      pushed_entries c.args.version c.args.size done last l.listed c.in-Some-2.more read more,
      one_done (key_text Field) c.args.s.now l.rest.now after c.in-Some-header.behind.now done last so_far goes_on headed behind_it within,
    )
