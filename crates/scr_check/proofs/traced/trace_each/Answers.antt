use Rattle.std.proofs.Common.{◌∙◌}
use Rattle.scr_check.specs.Origins.{kept_at}
use Rattle.scr_check.specs.Traced.{traced_by}
use Rattle.scr_check.proofs.TracedLaws.{traced_more}
use Rattle.scr_check.proofs.traced.trace_each.Goals as goal

pub loop-finding-preserved : goal.loop-finding-preserved
loop-finding-preserved c = λ r opened.
    traced_more (traced_by (kept_at c.args.origins.now) r c.args.layout.now) c.args.findings.now c.loop-finding.finding-index _ c.loop-finding.traced.items _ _
    c.loop-finding-test.true (c.trace.ensures r opened) c.in_ok-push.ensures.items
    ∙ c.loop-finding.invariant r opened
