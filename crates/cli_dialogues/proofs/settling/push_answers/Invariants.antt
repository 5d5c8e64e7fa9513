use Rattle.std.proofs.Common.{◌≡◌, ◌++◌, map, drop}
use Rattle.std.specs.String.{string_bytes}
use Rattle.std.specs.List.{flat_map}
use Rattle.tn_dialogue.specs.Answers.{answered_view}
use Rattle.cli_dialogues.specs.Answers.{answered_lines}
use Rattle.cli_dialogues.proofs.settling.push_answers.Given as goal

abbrev pub invariant-loop-answered : goal.invariant-loop-answered
invariant-loop-answered l =
    string_bytes l.out ++ flat_map (answered_lines l.application l.number) (map answered_view (drop l.answered-index l.answers))
    ≡ string_bytes l.fn.out ++ flat_map (answered_lines l.application l.number) (map answered_view l.answers)
