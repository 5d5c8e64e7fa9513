use Rattle.std.proofs.Common.{◌≡◌, ◌++◌, drop}
use Rattle.scr_draft.specs.Name.{dashed, dashed_from}
use Rattle.scr_draft.proofs.name.words_of.Given as goal

abbrev pub invariant-loop-byte : goal.invariant-loop-byte
invariant-loop-byte l = l.words.items ++ dashed_from l.none (drop l.byte-index l.label) ≡ dashed l.label
