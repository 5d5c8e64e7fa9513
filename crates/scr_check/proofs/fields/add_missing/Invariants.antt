use Rattle.std.proofs.Common.{◌≡◌, ◌++◌, ◌<◌, drop, length}
use Rattle.std.specs.Prelude.{All}
use Rattle.ds_screen.specs.Picture.{Picture}
use Rattle.ds_screen.specs.Outline.{IsOutlineOf}
use Rattle.scr_check.specs.Findings.{HaveFields, missing_from}
use Rattle.scr_check.proofs.fields.add_missing.Given as goal

abbrev pub invariant-loop-index : goal.invariant-loop-index
invariant-loop-index l =
    (v : Picture) → IsOutlineOf l.outline v → All (λ entry. entry.place < length v.cells) l.entries
    → HaveFields v.cells l.entries l.fn.first
    → l.findings.items ++ missing_from v.cells l.index (drop l.index l.entries) ≡ l.fn.findings.items ++ missing_from v.cells 0 l.entries
