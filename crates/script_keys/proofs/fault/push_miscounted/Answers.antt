use Rattle.std.proofs.Common.{List, ℕ, ◌++◌, codes, ◌∙◌, ap}
use Rattle.script_keys.specs.Arities.{arity_of, arity_words}
use Rattle.script_keys.specs.Faults.{told_name}
use Rattle.script_keys.specs.Names.{name_text}
use Rattle.script_keys.proofs.Texts.{three}
use Rattle.script_keys.proofs.fault.push_miscounted.Goals as goal

pub returns : goal.returns
returns c =
    let name : List ℕ = name_text (told_name c.args.name) in
    let words : List ℕ = arity_words (arity_of c.args.name) in
    three c.args.out.now.items name (codes "() requires ") words _ _ _
    (c.in_ok-push_text.ensures ∙ ap (λ t. c.args.out.now.items ++ t) (c.text.ensures ∙ ap name_text c.told_name.ensures))
    c.in_ok-push_text-2.ensures
    (c.in_ok-push_text-3.ensures ∙ ap (λ t. c.push_text-2.new.out.items ++ t) (c.words.ensures ∙ ap arity_words c.arity_of.ensures))
