use Rattle.std.proofs.Common.{◌≡◌, ◌++◌, drop}
use Rattle.scr_layout.proofs.layout.copied.Given as goal

abbrev pub invariant-loop-entry : goal.invariant-loop-entry
invariant-loop-entry l = l.all.items ++ drop l.entry-index l.entries ≡ l.entries
