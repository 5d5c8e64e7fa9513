use Rattle.std.proofs.Common.{◌≡◌}
use Rattle.ds_screen.specs.Fields.{fields_of}
use Rattle.cli_reports.specs.Extent.{length_in}
use Rattle.cli_reports.proofs.extent.length_at.Given as goal

abbrev pub invariant-loop-field : goal.invariant-loop-field
invariant-loop-field l = length_in l.place l.field-iterator ≡ length_in l.place (fields_of l.screen.cells)
