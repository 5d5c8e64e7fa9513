use Rattle.std.proofs.Common.{◌≡◌, ◌++◌, List, ℕ, Some, ap, sym, ◌∙◌}
use Rattle.std.specs.Prelude.{codes}
use Rattle.std.proofs.lemmas.Bool.{eqb-true, eq-eqb}
use Rattle.std.proofs.lemmas.Slice.Eq.{strip_prefix_is}
use Rattle.order_lines.proofs.Frequent.{set_address_first, erase_first, repeat_first}
use Rattle.order_lines.proofs.told.address_line.Goals as goal

pub returns-in-Some : goal.returns-in-Some
returns-in-Some c =
    let rest = c.in-Some.rest.now in
    let begins = strip_prefix_is (λ a b. (eqb-true a b, eq-eqb a b)) c.args.line.now c.as_slice.result.now (Some c.in-Some.rest) c.in-Some.ensures.cases in
    let line_is : c.args.line.now ≡ codes "SBA " ++ rest = begins ∙ ap (λ (word : List ℕ). word ++ rest) c.as_slice.ensures in
    rw line_is (c.set_address_line.ensures ∙ sym (set_address_first rest))

pub returns-in-Some-strip_prefix : goal.returns-in-Some-strip_prefix
returns-in-Some-strip_prefix c =
    let rest = c.in-Some-strip_prefix.rest.now in
    let begins = strip_prefix_is (λ a b. (eqb-true a b, eq-eqb a b)) c.args.line.now c.as_slice-2.result.now (Some c.in-Some-strip_prefix.rest) c.in-Some-strip_prefix.ensures.cases in
    let line_is : c.args.line.now ≡ codes "EUA " ++ rest = begins ∙ ap (λ (word : List ℕ). word ++ rest) c.as_slice-2.ensures in
    rw line_is (c.erase_line.ensures ∙ sym (erase_first rest))

pub returns-in-Some-strip_prefix-2 : goal.returns-in-Some-strip_prefix-2
returns-in-Some-strip_prefix-2 c =
    let rest = c.in-Some-strip_prefix-2.rest.now in
    let begins = strip_prefix_is (λ a b. (eqb-true a b, eq-eqb a b)) c.args.line.now c.as_slice-3.result.now (Some c.in-Some-strip_prefix-2.rest) c.in-Some-strip_prefix-2.ensures.cases in
    let line_is : c.args.line.now ≡ codes "RA " ++ rest = begins ∙ ap (λ (word : List ℕ). word ++ rest) c.as_slice-3.ensures in
    rw line_is (c.repeat_line.ensures ∙ sym (repeat_first rest))
