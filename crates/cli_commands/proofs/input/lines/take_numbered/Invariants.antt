use Rattle.std.proofs.Common.{◌≡◌, ◌+◌, ◌≤◌, length}
use Rattle.std.specs.Prelude.{Result}
use Rattle.cli_commands.specs.declared.fault.CommandError.{CommandError}
use Rattle.cli_commands.specs.Lines.{lines_in}
use Rattle.cli_commands.specs.Taking.{TakesAll}
use Rattle.cli_commands.proofs.input.lines.take_numbered.Given as goal

abbrev pub invariant-loop-line : goal.invariant-loop-line
invariant-loop-line g l =
    record {
      takes : (result : Result _ CommandError) → TakesAll g.T.TakesLines.takes l.number l.told l.line-iterator result
          → TakesAll g.T.TakesLines.takes l.fn.first l.fn.none (lines_in l.fn.text) result;
      counts : l.number + length l.line-iterator ≡ l.fn.first + length (lines_in l.fn.text);
      few : l.number + length l.line-iterator ≤ l.fn.first + length l.fn.text;
    }
