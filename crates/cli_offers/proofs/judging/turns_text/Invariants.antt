use Rattle.std.proofs.Common.{◌≡◌, ◌++◌, drop}
use Rattle.std.specs.List.{flat_map}
use Rattle.cli_offers.specs.Judging.{turn_of, turns_text}
use Rattle.cli_offers.proofs.judging.turns_text.Given as goal

-- the turns so far, with those of the screens that are left
abbrev pub invariant-loop-index : goal.invariant-loop-index
invariant-loop-index l = l.text.items ++ flat_map (turn_of l.files) (drop l.index-index l.way.others) ≡ turns_text l.files l.way
