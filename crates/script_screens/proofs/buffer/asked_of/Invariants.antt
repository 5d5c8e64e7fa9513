use Rattle.std.proofs.Common.{◌≡◌, drop, map}
use Rattle.script_screens.specs.Reading.{asked_after, asked_of}
use Rattle.script_screens.proofs.buffer.asked_of.Given as goal

abbrev pub invariant-loop-word : goal.invariant-loop-word
invariant-loop-word l = asked_after l.asked (map (λ word. word.items) (drop l.word-index l.words)) ≡ asked_of (map (λ word. word.items) l.words)
