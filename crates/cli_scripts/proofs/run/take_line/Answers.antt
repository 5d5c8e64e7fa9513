use Rattle.std.proofs.Common.{Bool, ℕ, List, [], ◌∷◌, Some, sym, subst}
use Rattle.std.specs.Io.KnownBytes.{prepend_known}
use Rattle.std.specs.Prelude.{IfSome}
use Rattle.bstr.specs.Text.{without_terminator}
use Rattle.cli_scripts.specs.declared.came.Came.TheVariants as came
use Rattle.cli_scripts.specs.Machines.{AnswersSo, goes_on}
use Rattle.cli_scripts.specs.declared.script.Asked.{Asked}
use Rattle.cli_scripts.specs.Runs.{AreRead, AsksFor}
use Rattle.cli_scripts.proofs.RunLaws.{gave_line, read_line, read_long}
use Rattle.cli_scripts.proofs.run.take_line.Goals as goal

pub returns-in_ok-take-in-Line-clause-gives : goal.returns-in_ok-take-in-Line-clause-gives
returns-in_ok-take-in-Line-clause-gives g c =
    let known = prepend_known c.args.lines.now.ahead (g.R.GivesBytes.remaining c.args.script.now) in
    let left = prepend_known c.advance.new.self.ahead (g.R.GivesBytes.remaining c.advance.new.reader) in
    gave_line _ c.args.machine.now c.in_ok-take-in-Line.field-0 c.take.new.self known left tt c.requires c.in_ok-take-in-Line.ensures.takes
    c.take.ensures.heard c.take.ensures.page c.take.ensures.gone
    (subst (λ (b : Bool). AnswersSo (goes_on b (came.Line c.line.result)) c.args.machine.now c.in_ok-take-in-Line.field-0 c.take.new.self) c.requires
    c.in_ok-take-in-Line.ensures.answered)
    (subst (λ (z : List ℕ). AreRead (Some z ∷ []) known left) (sym c.line.ensures)
    (read_line known left (without_terminator c.advance.new.self.line.items)
    (subst (λ (a : Asked). IfSome known (λ bytes. AsksFor bytes a (without_terminator c.advance.new.self.line.items) left)) c.in-Line.is c.in_ok-advance.ensures.asked)))

pub returns-in_ok-take-in-LongLine-clause-gives : goal.returns-in_ok-take-in-LongLine-clause-gives
returns-in_ok-take-in-LongLine-clause-gives g c =
    let known = prepend_known c.args.lines.now.ahead (g.R.GivesBytes.remaining c.args.script.now) in
    let left = prepend_known c.advance.new.self.ahead (g.R.GivesBytes.remaining c.advance.new.reader) in
    gave_line came.LongLine c.args.machine.now c.in_ok-take-in-LongLine.field-0 c.take-in-LongLine.new.self known left tt c.requires
    c.in_ok-take-in-LongLine.ensures.takes c.take-in-LongLine.ensures.heard c.take-in-LongLine.ensures.page c.take-in-LongLine.ensures.gone
    (subst (λ (b : Bool). AnswersSo (goes_on b came.LongLine) c.args.machine.now c.in_ok-take-in-LongLine.field-0 c.take-in-LongLine.new.self) c.requires
    c.in_ok-take-in-LongLine.ensures.answered)
    (read_long known left (without_terminator c.advance.new.self.line.items)
    (subst (λ (a : Asked). IfSome known (λ bytes. AsksFor bytes a (without_terminator c.advance.new.self.line.items) left)) c.in-LongLine.is c.in_ok-advance.ensures.asked))
