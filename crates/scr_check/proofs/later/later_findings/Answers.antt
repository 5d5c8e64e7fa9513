use Rattle.std.proofs.Common.{List, ℕ, map, sym}
use Rattle.scr_check.proofs.WalkLaws.{judged}
use Rattle.scr_check.proofs.later.later_findings.Goals as goal

pub returns-clause-judges : goal.returns-clause-judges
returns-clause-judges c =
    let records : List (List ℕ) = map (λ bytes. bytes.now) c.args.records.now in
    judged c.args.outline.now c.open_later.new.outline records c.args.layout.now c.in_ok-findings.findings.items c.all_without_keys.new.findings.items c.size.result (sym c.size.ensures.value)
    c.in_default.ensures.opens c.in_ok-findings.ensures c.all_without_keys.ensures
