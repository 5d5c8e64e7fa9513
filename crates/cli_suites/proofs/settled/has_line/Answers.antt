use Rattle.std.proofs.Common.{◌∙◌, sym, bytes_eq, string_bytes, rules}
use borrow.Author.Tests.{tests}
use Rattle.std.proofs.lemmas.Iterator.{YieldsList-from_slice}
use Rattle.std.proofs.lemmas.Iterator.Search.{any_from_yields_List}
use Rattle.cli_suites.proofs.Rows.{list_any-map}
use Rattle.cli_suites.proofs.settled.has_line.Goals as goal

pub returns : goal.returns
returns c =
    any_from_yields_List (λ s. bytes_eq (string_bytes s) c.args.text.now) _ _ _ c.any.ensures.ran (YieldsList-from_slice c.args.lines.now (cc)) (λ x b q k. search (rules, tests))
    ∙ sym (list_any-map (λ other. bytes_eq other c.args.text.now) string_bytes c.args.lines.now)
