use Rattle.std.proofs.Common.{ℕ, List, Bool, false, subst}
use Rattle.std.specs.String.{string_bytes}
use Rattle.cli_hosts.specs.Writing.{Writes}
use Rattle.cli_dialogues.proofs.settling.print_ended.Goals as goal

pub returns-else-print : goal.returns-else-print
returns-else-print g c =
    subst (λ (t : List ℕ). Writes c.args.output.now c.print.new.output t false) c.in-Ok.ensures.text
    (subst (λ (b : Bool). Writes c.args.output.now c.print.new.output (string_bytes c.in-Ok.text) b) c.if-print.false c.print.ensures)
