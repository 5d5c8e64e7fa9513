use Rattle.std.proofs.Common.{◌≡◌, ◌++◌, ◌-◌, map}
use Rattle.std.specs.String.{string_bytes}
use Rattle.std.specs.List.{range_with_len}
use Rattle.cli_pictures.specs.Seen.{shown_at}
use Rattle.cli_reports.specs.Label.{label_text}
use Rattle.cli_reports.proofs.label.push_label.Given as goal

abbrev pub invariant-loop-at : goal.invariant-loop-at
invariant-loop-at l =
    string_bytes l.out ++ map (shown_at l.screen.cells) (range_with_len l.at (l.stop - l.at))
    ≡ string_bytes l.fn.out ++ label_text l.screen.cells l.fn.label
