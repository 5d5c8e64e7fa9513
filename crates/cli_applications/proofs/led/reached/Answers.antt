use Rattle.std.proofs.Common.{◌≡◌, ◌∙◌, ◌<◌, ℕ, List, ap, arith, get_or, length, ◌+◌, refl, subst, sym}
use Rattle.std.proofs.lemmas.Option.{get_or_from_slice_get, slice_get_read}
use Rattle.cli_applications.specs.Chains.{leads_of, with_one, with_leads}
use Rattle.cli_applications.proofs.Found.{Finds, begins, follows, smaller, ends}
use Rattle.cli_applications.proofs.led.reached.Goals as goal

pub found-init : goal.found-init
found-init c =
    subst (Finds c.args.screens.now c.args.first 0) (sym c.in_ok-add.ensures)
    (subst (λ found. Finds c.args.screens.now c.args.first 0 (with_one (length c.args.screens.now) found c.args.first)) (sym c.new-found.ensures.items) (begins c.args.screens.now c.args.first))

pub found-smaller : goal.found-smaller
found-smaller c = smaller c.args.screens.now c.args.first c.found.at c.found.found.items c.found.invariant (omega (arith, c.found-test.true, c.len.ensures))

pub found-preserved : goal.found-preserved
found-preserved c =
    let found : List ℕ = c.found.found.items in
    let inside : c.found.at < length found = omega (arith, c.found-test.true, c.len.ensures) in
    let here : get_or found c.found.at 0 ≡ c.index.result.now =
    get_or_from_slice_get found c.found.at c.index.result.now 0 (slice_get_read found (length found) c.found.at c.index.result.now refl inside c.index.ensures) in
    subst (Finds c.args.screens.now c.args.first (c.found.at + 1))
    (sym (c.in_ok-follow.ensures ∙ ap (with_leads (length c.args.screens.now) found) (c.leads_of-leads.ensures ∙ ap (leads_of c.args.screens.now) (sym here))))
    (follows c.args.screens.now c.args.first c.found.at found c.found.invariant inside)

pub returns : goal.returns
returns c = ends c.args.screens.now c.args.first c.found.at c.found.found.items c.found.invariant (omega (arith, c.found-test.false, c.len.ensures))
