use Rattle.std.proofs.Common.{◌≡◌, ◌≤◌, ◌-◌, ◌%◌, length}
use Rattle.std.specs.List.{range_with_len}
use Rattle.cli_reports.specs.Label.{label_in}
use Rattle.cli_reports.proofs.label.label_on_row.Given as goal

abbrev pub invariant-loop-at : goal.invariant-loop-at
invariant-loop-at l =
    record {
      label : label_in l.screen.cells l.label (range_with_len l.at (l.place - l.at))
          ≡ label_in l.screen.cells l.fn.none (range_with_len (l.place - l.place % l.screen.size.cols) (l.place % l.screen.size.cols));
      inside : l.label.stop ≤ length l.screen.cells;
    }
