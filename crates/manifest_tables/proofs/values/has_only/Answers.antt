use Rattle.std.proofs.Common.{◌∙◌, string_bytes, rules}
use borrow.Author.Tests.{tests}
use Rattle.std.specs.BTreeMap.{keys}
use Rattle.std.proofs.lemmas.Iterator.Search.{all_from_yields_List}
use Rattle.std.proofs.lemmas.Iterator.Consumers.{YieldsList-from_rest}
use Rattle.manifest_tables.specs.Values.{is_key}
use Rattle.manifest_tables.proofs.Keys.{has_only-members_view}
use Rattle.manifest_tables.proofs.values.has_only.Goals as goal

pub returns : goal.returns
returns g c =
    all_from_yields_List (λ k. is_key g.K.Key.spelling c.args.keys.now (string_bytes k)) _ _ _ c.all.ensures.ran (YieldsList-from_rest (keys c.args.table.now) c.keys.ensures.rest) (λ x b q k. search (rules, tests))
    ∙ has_only-members_view g.K.Key.spelling c.args.keys.now c.args.table.now.entries
