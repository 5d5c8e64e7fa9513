use Rattle.std.proofs.Common.{◌≡◌, ◌++◌}
use Rattle.std.specs.List.{flat_map, range_with_len}
use Rattle.std.specs.String.{string_bytes}
use Rattle.scr_check.specs.Origins.{kept_at}
use Rattle.cli_findings.specs.Origins.{origin_line}
use Rattle.cli_findings.proofs.origins.push_origins.Given as goal

abbrev pub invariant-loop-p : goal.invariant-loop-p
invariant-loop-p l = string_bytes l.out ≡ string_bytes l.fn.out ++ flat_map (λ p. origin_line (kept_at l.origins p)) (range_with_len 0 l.p)
