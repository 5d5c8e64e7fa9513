use Rattle.std.proofs.Common.{◌∙◌, sym, string_bytes, rules}
use borrow.Author.Tests.{tests}
use Rattle.std.proofs.lemmas.Iterator.{YieldsList-from_slice}
use Rattle.std.proofs.lemmas.Iterator.Search.{all_from_yields_List}
use Rattle.std.proofs.lemmas.List.Folds.{list_all-map}
use Rattle.scr_layout.specs.Entry.{is_name}
use Rattle.scr_layout.proofs.rows.are_names.Goals as goal

pub returns : goal.returns
returns c =
    all_from_yields_List (λ s. is_name (string_bytes s)) _ _ _ c.all.ensures.ran (YieldsList-from_slice c.args.names.now (cc)) (λ x b q k. search (rules, tests))
    ∙ sym (list_all-map is_name string_bytes c.args.names.now)
