use Rattle.std.proofs.Common.{◌≡◌, ◌∙◌, ℕ, List, map, subst, ap}
use Rattle.std.specs.Prelude.{IfOk}
use Rattle.scr_check.specs.declared.traced.Traced.{Traced}
use Rattle.scr_check.specs.Seen.{findings_in}
use Rattle.cli_findings.proofs.SameFound.{same_found}
use Rattle.cli_findings.proofs.found.find.Goals as goal

pub returns : goal.returns
returns c =
    let held : List (List ℕ) = map (λ bytes. bytes.items) c.args.records.now in
    let lent : List (List ℕ) = map (λ bytes. bytes.now) c.as_slice-records.result.now in
    let same : lent ≡ held = ap (map (λ bytes. bytes.now)) c.as_slice-records.ensures.value ∙ c.in_ok-slices.ensures in
    subst (λ (found : List Traced). IfOk c.trace_verdict.result (λ traced. traced.items ≡ found))
    (same_found c.args.pen c.args.layout.now lent held (findings_in c.in_ok-verdict.verdict) same c.in_ok-verdict.ensures)
    c.trace_verdict.ensures
