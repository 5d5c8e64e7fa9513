use Rattle.std.proofs.Common.{◌≡◌, suc, ◌-◌, false, ◌==◌, Some, length, refl, ap, ◌∙◌, arith}
use Rattle.std.proofs.lemmas.Bool.Decides.{nat_tests}
use Rattle.std.proofs.lemmas.Grind.{common_steps}
use Rattle.toml_parser.specs.Lexical.{first}
use Rattle.toml.specs.Data.{no_members}
use Rattle.plain_tables.specs.Plain.{valued}
use Rattle.plain_tables.proofs.Laws.{document_of, first_header}
use Rattle.cli_suites.specs.declared.fault.ManifestKey.TheVariants.{Screen}
use Rattle.cli_suites.specs.Fault.{key_text}
use Rattle.cli_suites.proofs.ScreensLaws.{says_screens}
use Rattle.cli_suites.proofs.plain.plain_manifest.Goals as goal

pub returns-in-Some-2 : goal.returns-in-Some-2
unfolding valued
returns-in-Some-2 c =
    let text = c.args.text.now in
    let no_mark : (first text == 0xEF) ≡ false = grind (arith, nat_tests, common_steps) in
    let before = rw c.skip_blank.ensures.rest at c.skip_blank.ensures.within in
    let (read, shorter) = rw (c.skip_blank.ensures.rest, c.word.ensures) at c.in-Some.ensures in
    let (items, lined, tables, few, jobs) = rw c.in-Some-2.is at c.in_ok-jobs.ensures in
    let opened = first_header (key_text Screen) no_members (suc (length text)) text c.in-Some.behind.now refl (omega arith) read shorter in
    let (doc, all_read, closed) = lined no_members (suc (length text) - 1) (omega (arith, before, shorter)) in
    rw (document_of text doc no_mark (opened ∙ all_read) ∙ ap Some closed, c.into_jobs.ensures)
    (rw c.new.ensures.items (says_screens items c.in-Some-2.jobs tables few jobs))
