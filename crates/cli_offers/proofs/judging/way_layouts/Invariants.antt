use Rattle.std.proofs.Common.{◌≡◌, ◌++◌, drop, map}
use Rattle.cli_offers.specs.Judging.{layout_text, way_layouts}
use Rattle.cli_offers.proofs.judging.way_layouts.Given as goal

-- the layouts so far, with those of the screens that are left
abbrev pub invariant-loop-index : goal.invariant-loop-index
invariant-loop-index l = map (λ text. text.now) l.layouts.items ++ map (layout_text l.files) (drop l.index-index l.way.others) ≡ way_layouts l.files l.way
