use Rattle.std.proofs.Common.{◌∙◌, sym, string_bytes, rules}
use borrow.Author.Tests.{tests}
use Rattle.std.proofs.lemmas.Iterator.{YieldsList-from_slice}
use Rattle.std.proofs.lemmas.Iterator.Search.{any_from_yields_List}
use Rattle.scr_layout.specs.Rows.{has_name}
use Rattle.scr_layout.proofs.Tables.{list_any-map}
use Rattle.scr_layout.proofs.rows.has_any.Goals as goal

pub returns : goal.returns
returns c =
    any_from_yields_List (λ s. has_name (string_bytes s) c.args.before.now) _ _ _ c.any.ensures.ran (YieldsList-from_slice c.args.names.now (cc)) (λ x b q k. search (rules, tests))
    ∙ sym (list_any-map (λ name. has_name name c.args.before.now) string_bytes c.args.names.now)
