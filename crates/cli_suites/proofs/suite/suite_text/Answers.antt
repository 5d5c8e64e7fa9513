use Rattle.std.proofs.Common.{◌≡◌, ◌∙◌, sym, true}
use Rattle.cli_suites.specs.Suite.{is_long}
use Rattle.cli_suites.proofs.Known.{whatever}
use Rattle.cli_suites.proofs.suite.suite_text.Goals as goal

pub returns-then-is_long : goal.returns-then-is_long
returns-then-is_long g c =
    let long : is_long c.args.manifest.now ≡ true = sym c.is_long.ensures ∙ c.if-is_long.true in
    whatever (g.F.Files.contents c.args.files.now) _ (λ held. rw (long, ← c.start.ensures) c.refused_suite.ensures)
