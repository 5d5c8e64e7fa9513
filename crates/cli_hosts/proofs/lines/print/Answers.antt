use Rattle.std.proofs.Common.{◌≡◌, ◌<◌, ℕ, List, Option, inl, inr}
use Rattle.std.specs.Prelude.{◌⊎◌}
use Rattle.std.specs.String.{string_bytes}
use Rattle.cli_commands.specs.declared.status.Status.{Status}
use Rattle.cli_commands.specs.declared.status.Status.TheVariants.{Done}
use Rattle.cli_commands.specs.Causes.{HasFailed, WritesBy}
use Rattle.cli_commands.specs.Printed.{Printed, printed}
use Rattle.cli_commands.specs.Streams.{AppendsFront, IsWritten}
use Rattle.cli_hosts.proofs.lines.print.Goals as goal

part_written : (old new : Option (List ℕ)) (due : Printed) (status : Status) → IsWritten old new due status → ¬ (status ≡ due.status) → AppendsFront old new due.text
part_written old new due status (inl all) other = absurd (other all.0)
part_written old new due status (inr part) other = part.1

is_counted : (old new : ℕ) (due status : Status) → WritesBy old new due status → ¬ (status ≡ due) → HasFailed old new
is_counted old new due status (inl none) other = absurd (other none.0)
is_counted old new due status (inr one) other = one.1

pub returns-in_default : goal.returns-in_default
returns-in_default g c = (
  part_written c.args.output.now.written c.finish.new.writer.written (printed (string_bytes c.args.text) Done) c.finish.result c.finish.ensures.writes c.in_default.not-Done,
  is_counted c.args.output.now.failures c.finish.new.writer.failures Done c.finish.result c.finish.ensures.cause c.in_default.not-Done,
)
