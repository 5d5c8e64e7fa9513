use Rattle.std.proofs.Common.{◌≡◌, ◌++◌, ◌&&◌, drop}
use Rattle.std.specs.String.{string_bytes}
use Rattle.cli_commands.specs.Held.{records_held}
use Rattle.cli_binds.specs.Bind.{lines_from, are_bound}
use Rattle.cli_binds.proofs.bind.push_answers.Given as goal

abbrev pub invariant-loop-index : goal.invariant-loop-index
invariant-loop-index l =
    record {
      lines : string_bytes l.out ++ lines_from l.form l.layout l.index (records_held (drop l.index l.answers))
          ≡ string_bytes l.fn.out ++ lines_from l.form l.layout 0 (records_held l.answers);
      bound : l.all && are_bound l.layout (records_held (drop l.index l.answers)) ≡ are_bound l.layout (records_held l.answers);
    }
