use Rattle.std.proofs.Common.{◌≡◌, ◌++◌, List, ℕ, Some, ap, sym, ◌∙◌}
use Rattle.std.specs.Prelude.{codes}
use Rattle.std.specs.Option.{option_map}
use Rattle.std.proofs.lemmas.Bool.{eqb-true, eq-eqb}
use Rattle.std.proofs.lemmas.Slice.Eq.{strip_prefix_is}
use Rattle.order_lines.specs.Told.{order}
use Rattle.order_lines.proofs.Frequent.{text_first, attribute_first}
use Rattle.order_lines.proofs.told.read_line.Goals as goal

pub returns-in-Some : goal.returns-in-Some
returns-in-Some c =
    let rest = c.in-Some.rest.now in
    let begins = strip_prefix_is (λ a b. (eqb-true a b, eq-eqb a b)) c.args.line.now c.as_slice.result.now (Some c.in-Some.rest) c.in-Some.ensures.cases in
    let line_is : c.args.line.now ≡ codes "TEXT " ++ rest = begins ∙ ap (λ (word : List ℕ). word ++ rest) c.as_slice.ensures in
    rw line_is (c.order_said.ensures ∙ ap (option_map order) c.in_ok-text_line.ensures ∙ sym (text_first rest))

pub returns-in-Some-strip_prefix : goal.returns-in-Some-strip_prefix
returns-in-Some-strip_prefix c =
    let rest = c.in-Some-strip_prefix.rest.now in
    let begins = strip_prefix_is (λ a b. (eqb-true a b, eq-eqb a b)) c.args.line.now c.as_slice-2.result.now (Some c.in-Some-strip_prefix.rest) c.in-Some-strip_prefix.ensures.cases in
    let line_is : c.args.line.now ≡ codes "SF " ++ rest = begins ∙ ap (λ (word : List ℕ). word ++ rest) c.as_slice-2.ensures in
    rw line_is (c.order_said-in-Some-strip_prefix.ensures ∙ ap (option_map order) c.attribute_line.ensures ∙ sym (attribute_first rest))
