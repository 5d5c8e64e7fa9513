use Rattle.std.proofs.Common.{◌≡◌, length, map}
use denote.Shadow.{shadow}
use denote.Text.{Utf8}
use Rattle.cli_reasons.specs.Nearest.{nearest_from}
use Rattle.cli_reasons.proofs.near.nearest_from.Given as goal

-- the nearest word so far leads to the same
abbrev pub invariant-loop-rest : goal.invariant-loop-rest
invariant-loop-rest l = record {
  same : nearest_from l.word l.best (map (λ w. w.now) l.rest) ≡ nearest_from l.word l.first (map (λ w. w.now) l.others);
  is_text : shadow (Utf8 l.best);
}

abbrev pub decreases-loop-rest : goal.decreases-loop-rest
decreases-loop-rest l = length l.rest
