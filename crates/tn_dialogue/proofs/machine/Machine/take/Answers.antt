use Rattle.std.proofs.Common.{◌++◌, ◌∙◌, sym, ap}
use Rattle.tn_wire.specs.Calls.{told_of}
use Rattle.tn_dialogue.specs.Dialogue.{Running}
use Rattle.tn_dialogue.proofs.Steps.{host_stops, host_records, host_means}
use Rattle.tn_dialogue.proofs.machine.Machine.take.Goals as goal

pub returns-in-Err : goal.returns-in-Err
returns-in-Err c =
    host_stops c.args.self.now _ c.self.inside.core c.step.new.self (told_of c.args.event.now) c.in-Err.why c.args.due.now.items c.step.new.out.items c.stop.result c.stop.new.self
    (ap (λ (r : Running). r.core) (sym c.self.view_is)) c.in-Err.ensures
    (ap (λ (r : Running). record r { core = c.step.new.self }) c.self.view_is) c.requires.empty c.stop.ensures

pub returns-in-Record : goal.returns-in-Record
returns-in-Record c =
    host_records c.args.self.now _ c.self.inside.core c.step.new.self (told_of c.args.event.now) c.in-Record.bytes.now c.take_record.new.due.items c.in-Ok.told c.step.new.out.items c.take_record.result c.take_record.new.self
    (ap told_of c.in-Record.is) (ap (λ (r : Running). r.core) (sym c.self.view_is)) c.in-Ok.ensures
    (ap (λ (r : Running). record r { core = c.step.new.self }) c.self.view_is) c.take_record.ensures

pub returns : goal.returns
returns c =
    host_means c.args.self.now _ c.self.inside.core c.step.new.self c.args.event.now c.in-Ok.told c.step.new.out.items c.extend_from_slice.new.self.items c.mean.new.due.items c.mean.result c.mean.new.self
    c.in_default.not-Record (ap (λ (r : Running). r.core) (sym c.self.view_is)) c.in-Ok.ensures
    (ap (λ (r : Running). record r { core = c.step.new.self }) c.self.view_is)
    (c.in_ok-extend_from_slice.ensures.items ∙ ap (λ d. d ++ c.deref.result.now) c.requires.empty ∙ c.deref.ensures.0) c.mean.ensures
