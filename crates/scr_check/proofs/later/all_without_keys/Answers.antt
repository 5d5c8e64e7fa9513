use Rattle.std.proofs.Common.{set, ◌∙◌, ap, arith}
use Rattle.std.proofs.lemmas.List.Edits.{map_over_more}
use Rattle.scr_check.specs.Walk.{without_keys}
use Rattle.scr_check.proofs.later.all_without_keys.Goals as goal

pub findings-preserved : goal.findings-preserved
findings-preserved c =
    ap (set c.findings.findings.items c.findings.i) c.without_keys.ensures
    ∙ map_over_more without_keys c.args.findings.now.items c.findings.findings.items c.findings.i c.index.result.now (omega (arith, c.findings-test.true, c.len-i-end.ensures, c.args.findings.now.ok)) c.findings.invariant c.index.ensures
