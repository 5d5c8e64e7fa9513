use Rattle.std.proofs.Common.{◌≡◌, ◌++◌, map, drop}
use Rattle.std.specs.String.{string_bytes}
use Rattle.std.specs.List.{flat_map}
use Rattle.scr_check.specs.Bound.{bound_seen}
use Rattle.cli_dialogues.specs.Answers.{pair_line}
use Rattle.cli_dialogues.proofs.answer.push_pairs.Given as goal

abbrev pub invariant-loop-pair : goal.invariant-loop-pair
invariant-loop-pair l =
    string_bytes l.out ++ flat_map (pair_line l.entries) (map bound_seen (drop l.pair-index l.pairs))
    ≡ string_bytes l.fn.out ++ flat_map (pair_line l.entries) (map bound_seen l.pairs)
