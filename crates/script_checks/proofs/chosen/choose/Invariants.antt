use Rattle.std.proofs.Common.{◌≡◌, map, option_map, drop}
use Rattle.script_checks.specs.Named.{best_after, chosen}
use Rattle.script_checks.specs.NamedView.{named_view}
use Rattle.script_checks.proofs.chosen.choose.Given as goal

abbrev pub invariant-loop-one : goal.invariant-loop-one
invariant-loop-one l =
    best_after l.screen (option_map (λ one. named_view one.now) l.best) (map named_view (drop l.one-index l.all)) ≡ chosen l.screen (map named_view l.all)
