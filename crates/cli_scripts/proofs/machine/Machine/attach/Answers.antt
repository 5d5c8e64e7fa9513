use Rattle.std.proofs.Common.{ap, ◌∙◌}
use Rattle.std.proofs.lemmas.Result.{on_ok_weaker}
use Rattle.cli_scripts.specs.Answers.{printed_text}
use Rattle.cli_scripts.specs.Desks.{NamedHost, opened}
use Rattle.cli_scripts.specs.Machines.{Scripted, host_named}
use Rattle.cli_scripts.proofs.machine.Machine.attach.Goals as goal

pub returns-clause-opened : goal.returns-clause-opened
returns-clause-opened c =
    on_ok_weaker c.open_session.result
    (λ is. is ∙ ap (λ (h : NamedHost). opened c.self.inside.worker.desk h) c.in_ok-host.ensures
    ∙ ap (λ (m : Scripted). opened m.desk (host_named (printed_text c.args.name.now) c.args.port)) c.self.view_is)
    c.open_session.ensures.opened
