use Rattle.std.proofs.Common.{◌≡◌, ◌<◌, ◌==◌, false, sym, ap, ◌∙◌, arith}
use Rattle.std.proofs.lemmas.Bool.Decides.{nat_tests}
use Rattle.std.proofs.lemmas.Grind.{common_steps}
use Rattle.std.specs.List.{prefix_len}
use Rattle.toml_parser.specs.Lexical.{first, is_bare}
use Rattle.toml_parser.proofs.LexicalLemmas.{IsCharBoundary-ascii_run}
use Rattle.plain_tables.proofs.Laws.{bare_read}
use Rattle.plain_tables.proofs.line.bare_key.Goals as goal

pub split_at-requires : goal.split_at-requires
split_at-requires c =
    rw (c.bare_length-count.ensures.value, c.as_bytes.ensures.value)
    (IsCharBoundary-ascii_run is_bare c.args.s.now c.utf8.s (λ byte bare. grind (arith, nat_tests)))

pub returns : goal.returns
returns c =
    let same = c.bare_length-count.ensures.value ∙ ap (prefix_len is_bare) c.as_bytes.ensures.value in
    let some : 0 < c.bare_length-count.result = omega (arith, c.if-count-eq0.false) in
    let no_dot : (first c.skip_ws-after.result.now == 46) ≡ false = grind (arith, nat_tests, common_steps) in (
      bare_read c.args.s.now c.split_at.result.0.now c.split_at.result.1.now c.skip_ws-after.result.now c.bare_length-count.result same some
          (sym c.starts_string.ensures ∙ c.if-starts_string.false) c.split_at.ensures.front c.split_at.ensures.back c.skip_ws-after.ensures.rest no_dot,
      omega (arith, some, c.skip_ws-after.ensures.within, c.split_at.ensures.back_len),
    )
