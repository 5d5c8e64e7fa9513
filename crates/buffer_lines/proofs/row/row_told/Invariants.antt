use Rattle.std.proofs.Common.{◌≡◌, map, drop}
use Rattle.buffer_lines.specs.Row.{row_from, row_told}
use Rattle.buffer_lines.proofs.row.row_told.Given as goal

abbrev pub invariant-loop-word : goal.invariant-loop-word
invariant-loop-word l = row_from l.cells.items (map (λ word. word.items) (drop l.word-index l.words)) ≡ row_told (map (λ word. word.items) l.words)
