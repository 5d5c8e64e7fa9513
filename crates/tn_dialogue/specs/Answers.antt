-- Answers as the program holds them.
use Rattle.std.specs.Prelude.{ℕ, List}
use Rattle.tn_dialogue.specs.declared.screen.Answered.{Answered}

abbrev pub answered_view : Answered → ℕ × List ℕ
answered_view answered = (answered.screen, answered.bytes.items)
