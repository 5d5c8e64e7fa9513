use Rattle.std.proofs.Common.{◌≡◌, ◌++◌, map, drop}
use Rattle.buffer_lines.specs.Words.{words_from, words_of}
use Rattle.buffer_lines.proofs.words.words_of.Given as goal

abbrev pub invariant-loop-byte : goal.invariant-loop-byte
invariant-loop-byte l = map (λ w. w.items) l.words.items ++ words_from l.word.items (drop l.byte-index l.line) ≡ words_of l.line
