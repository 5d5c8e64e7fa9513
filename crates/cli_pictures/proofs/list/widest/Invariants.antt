use Rattle.std.proofs.Common.{◌≡◌, ◌≤◌, drop, map}
use Rattle.std.specs.Prelude.{max}
use Rattle.std.specs.String.{string_bytes}
use Rattle.cli_pictures.specs.Notes.{widest}
use Rattle.cli_pictures.proofs.list.widest.Given as goal

abbrev pub invariant-loop-line : goal.invariant-loop-line
invariant-loop-line l =
    record {
      value : max l.most (widest (map string_bytes (drop l.line-index l.lines))) ≡ widest (map string_bytes l.lines);
      few : l.most ≤ 1000;
    }
