use Rattle.std.proofs.Common.{◌≡◌, ◌==◌, [], Some, true, ap, ◌∙◌, drop, slice_index, rules, arith}
use Rattle.std.proofs.lemmas.Bool.Decides.{nat_tests}
use Rattle.std.proofs.lemmas.Grind.{common_steps}
use Rattle.toml_parser.specs.Lexical.{first, skip_ws}
use Rattle.toml_parser.specs.Strings.{key}
use Rattle.plain_tables.specs.Plain.{is_end}
use Rattle.plain_tables.proofs.Laws.{header_line}
use Rattle.plain_tables.proofs.line.header.Goals as goal

pub returns-then-is_end : goal.returns-then-is_end
returns-then-is_end c =
    let s = c.args.s.now in
    let inside = c.in-Some.rest.now in
    let open_one : (first s == 91) ≡ true = grind (arith, nat_tests, common_steps) in
    let open_two : (slice_index s 1 == 91) ≡ true = grind (arith, nat_tests, common_steps) in
    let close_one : (first inside == 93) ≡ true = grind (arith, nat_tests, common_steps) in
    let close_two : (first (drop 1 inside) == 93) ≡ true = rw (← c.skip-closed.ensures.rest) (grind (arith, nat_tests, common_steps)) in
    let over : is_end c.skip-rest.result.now ≡ true = grind (arith, nat_tests, common_steps) in
    let read = c.in-Some.ensures in
    let name : c.in-Some.word.now ≡ c.args.key.now = search rules in
    let named : key (skip_ws (drop 2 s)) ≡ Some (([], c.args.key.now), inside) = rw (← c.skip.ensures.rest, ← c.skip_ws.ensures.rest, ← name) read.0 in
    let same = c.skip-rest.ensures.rest ∙ ap (drop 1) c.skip-closed.ensures.rest in (
      header_line c.args.key.now s inside c.skip-rest.result.now open_one open_two named close_one close_two same over,
      omega (arith, read.1, c.skip.ensures.shorter, c.skip_ws.ensures.within, c.skip-closed.ensures.shorter, c.skip-rest.ensures.shorter),
    )
