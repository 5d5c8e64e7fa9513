use Rattle.std.proofs.Common.{◌≡◌, drop, map}
use Rattle.buffer_lines.specs.Flaw.{column_from}
use Rattle.buffer_lines.proofs.flaw.column_from.Given as goal

abbrev pub invariant-loop-word : goal.invariant-loop-word
invariant-loop-word l = column_from l.column (map (λ word. word.items) (drop l.word-index l.words)) ≡ column_from l.first (map (λ word. word.items) l.words)
