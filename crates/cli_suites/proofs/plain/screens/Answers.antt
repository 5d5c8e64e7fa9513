use Rattle.std.proofs.Common.{◌≡◌, ◌+◌, length, ap, ◌∙◌, refl, rules, arith}
use Rattle.std.proofs.lemmas.Grind.{common_steps}
use Rattle.toml_parser.specs.Lexical.{skip_blank}
use Rattle.toml.specs.Data.{table, no_items, push_item}
use Rattle.plain_tables.proofs.Laws.{none_done, one_done, all_done}
use Rattle.manifest_tables.proofs.Rows.{are_tables-push}
use Rattle.cli_suites.specs.declared.fault.ManifestKey.TheVariants.{Screen}
use Rattle.cli_suites.specs.Fault.{key_text}
use Rattle.cli_suites.proofs.ScreensLaws.{one_job, pushed_jobs, pushed_count, no_jobs}
use Rattle.cli_suites.proofs.plain.screens.Goals as goal

pub screens-init : goal.screens-init
screens-init c = (c.utf8.s, no_items, refl, refl, no_jobs c.new-jobs.result c.new-jobs.ensures, none_done (key_text Screen) c.args.s.now)

pub returns-then-is_empty : goal.returns-then-is_empty
returns-then-is_empty c =
    let l = c.screens in
    let (utf8, done, tables, count, read, so_far) = l.invariant in
    let after = c.in-Some.after.now in
    let (last, goes_on, said) = rw c.in-Some.is at c.in_ok-job.ensures in
    let (new, all) = rw c.in-Some-2.is at c.in_ok-more.ensures in
    let more = one_job l.jobs last c.in-Some.job said new in
    let start_is = c.skip_blank-start.ensures.rest in
    let over : length (skip_blank after) ≡ 0 = grind (arith, common_steps) in (
      push_item done (table last),
      all_done (key_text Screen) c.args.s.now l.rest.now after done last so_far goes_on over,
      are_tables-push done last ∙ tables,
      omega (arith, pushed_count done last, count, c.screens-test.true),
      rw all (pushed_jobs done last l.jobs _ read more),
    )

pub screens-preserved : goal.screens-preserved
screens-preserved c =
    let l = c.screens in
    let (utf8, done, tables, count, read, so_far) = l.invariant in
    let after = c.in-Some.after.now in
    let (last, goes_on, said) = rw c.in-Some.is at c.in_ok-job.ensures in
    let (new, all) = rw c.in-Some-2.is at c.in_ok-more.ensures in
    let more = one_job l.jobs last c.in-Some.job said new in
    let within = rw c.skip_blank-start.ensures.rest at c.skip_blank-start.ensures.within in
    let (headed, behind_it) = rw (c.skip_blank-start.ensures.rest, c.word.ensures) at c.in-Some-header.ensures in (
      search rules,
      push_item done (table last),
      are_tables-push done last ∙ tables,
      pushed_count done last ∙ ap (λ n. n + 1) count,
      rw all (pushed_jobs done last l.jobs _ read more),
      one_done (key_text Screen) c.args.s.now l.rest.now after c.in-Some-header.behind.now done last so_far goes_on headed behind_it within,
    )
