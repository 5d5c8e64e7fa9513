use Rattle.std.proofs.Common.{◌≡◌, ◌++◌, ◌+◌, ◌≤◌, length}
use Rattle.std.specs.String.{string_bytes}
use Rattle.cli_commands.specs.Lines.{lines_in}
use Rattle.cli_reasons.specs.RefusedAnswer.{answers_said}
use Rattle.cli_reasons.proofs.refused_answer.answer_sentences.Given as goal

-- what is written, and what the lines that are left lead to, are the whole, and the numbers of the lines fit
abbrev pub invariant-lines : goal.invariant-lines
invariant-lines l = record {
  same : string_bytes l.out ++ answers_said l.fn.name l.number l.turns l.line-iterator ≡ answers_said l.fn.name 1 l.fn.layouts (lines_in l.fn.text);
  few : l.number + length l.line-iterator ≤ 1 + length l.fn.text;
}
