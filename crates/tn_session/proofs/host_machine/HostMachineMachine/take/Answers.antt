use Rattle.std.proofs.Common.{sym, ap}
use Rattle.tn_wire.specs.Calls.{told_of}
use Rattle.tn_session.specs.HostLog.{HostRunning}
use Rattle.tn_session.proofs.HostSteps.{host_fails, host_records}
use Rattle.tn_session.proofs.host_machine.HostMachineMachine.take.Goals as goal

pub returns-in-Err : goal.returns-in-Err
returns-in-Err c =
    host_fails c.args.self.now _ c.self.inside.core (told_of c.args.event.now) c.step.new.self c.in-Err.why c.step.new.out.items
    (ap (λ (r : HostRunning). r.core) (sym c.self.view_is)) c.in-Err.ensures (ap (λ (r : HostRunning). record r { core = c.step.new.self }) c.self.view_is)

pub returns-in-Record : goal.returns-in-Record
returns-in-Record c =
    host_records c.args.self.now _ c.self.inside.core c.step.new.self (told_of c.args.event.now) c.in-Record.bytes.now c.args.due.now.items c.in-Ok.told c.step.new.out.items c.take_record.result c.take_record.new.self
    (ap told_of c.in-Record.is) (ap (λ (r : HostRunning). r.core) (sym c.self.view_is)) c.in-Ok.ensures
    (ap (λ (r : HostRunning). record r { core = c.step.new.self }) c.self.view_is) c.requires.empty c.take_record.ensures
