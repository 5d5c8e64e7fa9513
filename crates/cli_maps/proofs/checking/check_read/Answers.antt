use Rattle.std.proofs.Common.{ℕ, List, subst}
use Rattle.ds_codec.specs.Reading.{◌>>=◌}
use Rattle.cli_commands.specs.Fault.{Gives}
use Rattle.cli_commands.specs.Held.{answer_seen}
use Rattle.cli_maps.specs.Asked.{name_in, report_seen}
use Rattle.cli_maps.specs.Printed.{check_limited, check_told}
use Rattle.cli_maps.proofs.Read.{read_fails, read_on}
use Rattle.cli_maps.proofs.checking.check_read.Goals as goal

pub returns-in-Ok-clause-answer : goal.returns-in-Ok-clause-answer
returns-in-Ok-clause-answer g c =
    read_on (g.S.Source.remaining c.args.from.now) (λ input. input >>= check_told (report_seen c.args.report) (name_in c.args.asked.name) c.args.asked.control) _ c.check_limited.result c.in-Ok.ensures.bytes
    (subst (λ (t : List ℕ). Gives answer_seen c.check_limited.result (check_limited (report_seen c.args.report) (name_in c.args.asked.name) c.args.asked.control t)) c.bytes.ensures c.check_limited.ensures)

pub returns-in-Err-clause-answer : goal.returns-in-Err-clause-answer
returns-in-Err-clause-answer g c = read_fails (g.S.Source.remaining c.args.from.now) (check_limited (report_seen c.args.report) (name_in c.args.asked.name) c.args.asked.control) c.in-Err.error c.in-Err.ensures.failed
