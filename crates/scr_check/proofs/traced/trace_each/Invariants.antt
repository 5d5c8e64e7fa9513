use Rattle.std.proofs.Common.{◌≡◌, ◌++◌, map, drop, Result}
use Rattle.ds_screen.specs.Picture.{Picture}
use Rattle.scr_check.specs.declared.finding.Finding.{Finding}
use Rattle.scr_check.specs.Origins.{kept_at}
use Rattle.scr_check.specs.Seen.{IsOpened}
use Rattle.scr_check.specs.Traced.{traced_by}
use Rattle.scr_check.proofs.traced.trace_each.Given as goal

abbrev pub invariant-loop-finding : goal.invariant-loop-finding
invariant-loop-finding l =
    (r : Result Picture Finding) → IsOpened r l.opening
    → l.traced.items ++ map (traced_by (kept_at l.origins) r l.layout) (drop l.finding-index l.findings)
    ≡ map (traced_by (kept_at l.origins) r l.layout) l.findings
