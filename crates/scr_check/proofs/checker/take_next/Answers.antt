use Rattle.std.proofs.Common.{subst}
use Rattle.scr_check.specs.Checker.{LeadsUnless}
use Rattle.scr_check.proofs.CheckerLaws.{still_stands, leads_on, stands_next}
use Rattle.scr_check.proofs.checker.take_next.Goals as goal

pub returns-in-Some : goal.returns-in-Some
returns-in-Some c = λ layout records counts led.
    still_stands layout records c.args.reached.now c.args.reached.now c.args.index c.args.bytes.now c.in-Some.finding
    (subst (LeadsUnless layout records c.args.reached.now) c.in-Some.is led)

pub returns-in-Ok : goal.returns-in-Ok
returns-in-Ok c = λ layout records counts led.
    leads_on layout records c.args.reached.now c.take.new.self c.args.index c.args.bytes.now counts
    (subst (LeadsUnless layout records c.args.reached.now) c.in_default.is led) c.in-Ok.ensures

pub returns-in-Err : goal.returns-in-Err
returns-in-Err c = λ layout records counts led.
    stands_next layout records c.args.reached.now c.take.new.self c.args.index c.args.bytes.now c.in-Err.finding counts
    (subst (LeadsUnless layout records c.args.reached.now) c.in_default.is led) c.in-Err.ensures
