use Rattle.std.proofs.Common.{◌≡◌, ◌==◌, true, false, ap, ◌∙◌, arith}
use Rattle.std.proofs.lemmas.Bool.Decides.{nat_tests}
use Rattle.std.proofs.lemmas.Grind.{common_steps}
use Rattle.toml_parser.specs.Lexical.{first, skip_ws}
use Rattle.toml.specs.View.{view}
use Rattle.plain_tables.proofs.Laws.{pair_line}
use Rattle.plain_tables.proofs.line.pair.Goals as goal

pub returns : goal.returns
returns c =
    let s = c.args.s.now in
    let behind = c.in-Some.rest.now in
    let no_header : (first s == 91) ≡ false = grind (arith, nat_tests, common_steps) in
    let equal : (first behind == 61) ≡ true = grind (arith, nat_tests, common_steps) in
    let named = c.in-Some.ensures in
    let (read, over, shorter) = rw c.in-Some-2.is at c.in_ok-value.ensures in
    let same = c.skip_ws.ensures.rest ∙ ap skip_ws c.skip.ensures.rest in (
      pair_line s behind _ c.in-Some-2.rest.now c.in-Some.key.now (view c.in-Some-2.value) no_header named.0 equal same read over,
      omega (arith, named.1, shorter, c.skip.ensures.shorter, c.skip_ws.ensures.within),
    )
