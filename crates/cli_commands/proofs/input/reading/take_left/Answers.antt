use Rattle.std.proofs.Common.{◌≡◌, ◌+◌, ◌-◌, ◌≤◌, nat_le, length, sym, ◌∙◌, arith, subst, Ok, Err}
use Rattle.std.specs.Prelude.{IfSome, IfOk}
use Rattle.std.specs.Io.KnownBytes.{prepend_known}
use Rattle.cli_commands.specs.Lines.{lines_in}
use Rattle.cli_commands.specs.NextLine.{ReadsSome}
use Rattle.cli_commands.specs.Taking.{TakesAll, TakesNumbered, TakesWhole, TakenSoFar, EndsAs}
use Rattle.cli_commands.proofs.InTurn.{takes_more, takes_fault, takes_all, shown_more, shown_fault, front_of}
use Rattle.cli_commands.proofs.input.reading.take_left.Goals as goal

pub lines-preserved : goal.lines-preserved
lines-preserved g c =
    let R = g.R.GivesBytes.remaining in
    let takes = g.T.TakesLines.takes in
    let few : c.lines.left ≤ 16777216 = omega (arith, c.lines.invariant.few, c.lines.invariant.from) in
    let shown = subst (λ r. TakesWhole takes c.lines.number c.lines.told (prepend_known c.lines.ahead (R c.lines.reader)) (prepend_known c.take_shown.new.ahead (R c.take_shown.new.reader)) c.in_ok-count.count r) c.in-Ok.is c.in_ok-count.ensures.takes in
    let so = shown_more takes c.args.none (prepend_known c.args.ahead.now (R c.args.reader.now)) (prepend_known c.lines.ahead (R c.lines.reader)) (prepend_known c.take_shown.new.ahead (R c.take_shown.new.reader)) c.lines.number c.lines.told c.lines.left c.in_ok-count.count
    c.in-Ok.taken.0 c.in-Ok.taken.1 c.lines.invariant.so shown c.in_ok-count.ensures.few few in
    let front = front_of (prepend_known c.take_shown.new.ahead (R c.take_shown.new.reader)) c.next_line.new.line.items (prepend_known c.next_line.new.ahead (R c.next_line.new.reader))
    (subst (λ b. IfSome (prepend_known c.take_shown.new.ahead (R c.take_shown.new.reader)) (λ bytes. ReadsSome bytes b c.next_line.new.line.items (prepend_known c.next_line.new.ahead (R c.next_line.new.reader)))) c.if-not-branch.false c.in_ok-next_line.ensures.front) in
    let size : c.len-in-lines.result ≡ length c.next_line.new.line.items = omega (arith, c.len-in-lines.ensures) in
    let fits : length c.next_line.new.line.items ≤ c.lines.left - c.in_ok-count.count = omega (arith, c.if-left-len.false, c.len.ensures) in
    let took = subst (λ z. TakesNumbered takes c.in-Ok.taken.1 c.in-Ok.taken.0 (lines_in z) (Ok c.in-Ok-take_numbered.taken)) c.deref.ensures.value c.in-Ok-take_numbered.ensures.takes in
    let some = c.in_ok-next_line.ensures.some c.if-not-branch.false in
    let next : c.in-Ok.taken.1 ≤ c.lines.number + c.in_ok-count.count = subst (λ r. IfOk r (λ after. after.1 ≤ c.lines.number + c.in_ok-count.count)) c.in-Ok.is c.in_ok-count.ensures.next in
    let from : c.lines.number ≤ c.in-Ok.taken.1 = omega (arith, shown.3.1) in
    record {
      so = subst (λ n. TakenSoFar takes c.args.none (prepend_known c.args.ahead.now (R c.args.reader.now)) (prepend_known c.next_line.new.ahead (R c.next_line.new.reader)) c.in-Ok-take_numbered.taken.1 c.in-Ok-take_numbered.taken.0 (c.lines.left - c.in_ok-count.count - n)) (sym size)
          (takes_more takes c.args.none (prepend_known c.args.ahead.now (R c.args.reader.now)) (prepend_known c.take_shown.new.ahead (R c.take_shown.new.reader)) (prepend_known c.next_line.new.ahead (R c.next_line.new.reader)) c.in-Ok.taken.1 c.in-Ok.taken.0 (c.lines.left - c.in_ok-count.count)
          c.next_line.new.line.items c.in-Ok-take_numbered.taken.0 c.in-Ok-take_numbered.taken.1 so front fits (omega (arith, few)) took);
      from = omega (arith, c.lines.invariant.from, from, took.1);
      cause = c.in_ok-next_line.ensures.cause ∙ c.in_ok-count.ensures.cause ∙ c.lines.invariant.cause;
      few = omega (arith, c.lines.invariant.few, c.in-Ok-take_numbered.ensures.few, c.deref.ensures.len, size, fits, next, c.in_ok-count.ensures.few);
    }

pub returns-in-Err-clause-takes : goal.returns-in-Err-clause-takes
returns-in-Err-clause-takes g c =
    let R = g.R.GivesBytes.remaining in
    let takes = g.T.TakesLines.takes in
    let few : c.lines.left ≤ 16777216 = omega (arith, c.lines.invariant.few, c.lines.invariant.from) in
    let shown = subst (λ r. TakesWhole takes c.lines.number c.lines.told (prepend_known c.lines.ahead (R c.lines.reader)) (prepend_known c.take_shown.new.ahead (R c.take_shown.new.reader)) c.in_ok-count.count r) c.in-Err.is c.in_ok-count.ensures.takes in
    shown_fault takes c.args.none (prepend_known c.args.ahead.now (R c.args.reader.now)) (prepend_known c.lines.ahead (R c.lines.reader)) (prepend_known c.take_shown.new.ahead (R c.take_shown.new.reader)) c.lines.number c.lines.told c.lines.left c.in_ok-count.count
    c.in-Err.error c.fault_before_the_end.result c.lines.invariant.so shown c.in_ok-count.ensures.few few c.fault_before_the_end.ensures.ends

pub returns-then-not-branch-clause-takes : goal.returns-then-not-branch-clause-takes
returns-then-not-branch-clause-takes g c =
    let R = g.R.GivesBytes.remaining in
    let takes = g.T.TakesLines.takes in
    let few : c.lines.left ≤ 16777216 = omega (arith, c.lines.invariant.few, c.lines.invariant.from) in
    let shown = subst (λ r. TakesWhole takes c.lines.number c.lines.told (prepend_known c.lines.ahead (R c.lines.reader)) (prepend_known c.take_shown.new.ahead (R c.take_shown.new.reader)) c.in_ok-count.count r) c.in-Ok.is c.in_ok-count.ensures.takes in
    let so = shown_more takes c.args.none (prepend_known c.args.ahead.now (R c.args.reader.now)) (prepend_known c.lines.ahead (R c.lines.reader)) (prepend_known c.take_shown.new.ahead (R c.take_shown.new.reader)) c.lines.number c.lines.told c.lines.left c.in_ok-count.count
    c.in-Ok.taken.0 c.in-Ok.taken.1 c.lines.invariant.so shown c.in_ok-count.ensures.few few in
    takes_all takes c.args.none (prepend_known c.args.ahead.now (R c.args.reader.now)) (prepend_known c.take_shown.new.ahead (R c.take_shown.new.reader)) (prepend_known c.next_line.new.ahead (R c.next_line.new.reader)) c.in-Ok.taken.1 c.in-Ok.taken.0 (c.lines.left - c.in_ok-count.count)
    c.next_line.new.line.items so
    (subst (λ b. IfSome (prepend_known c.take_shown.new.ahead (R c.take_shown.new.reader)) (λ bytes. ReadsSome bytes b c.next_line.new.line.items (prepend_known c.next_line.new.ahead (R c.next_line.new.reader)))) c.if-not-branch.true c.in_ok-next_line.ensures.front)

pub returns-in-Err-take_numbered-clause-takes : goal.returns-in-Err-take_numbered-clause-takes
returns-in-Err-take_numbered-clause-takes g c =
    let R = g.R.GivesBytes.remaining in
    let takes = g.T.TakesLines.takes in
    let few : c.lines.left ≤ 16777216 = omega (arith, c.lines.invariant.few, c.lines.invariant.from) in
    let shown = subst (λ r. TakesWhole takes c.lines.number c.lines.told (prepend_known c.lines.ahead (R c.lines.reader)) (prepend_known c.take_shown.new.ahead (R c.take_shown.new.reader)) c.in_ok-count.count r) c.in-Ok.is c.in_ok-count.ensures.takes in
    let so = shown_more takes c.args.none (prepend_known c.args.ahead.now (R c.args.reader.now)) (prepend_known c.lines.ahead (R c.lines.reader)) (prepend_known c.take_shown.new.ahead (R c.take_shown.new.reader)) c.lines.number c.lines.told c.lines.left c.in_ok-count.count
    c.in-Ok.taken.0 c.in-Ok.taken.1 c.lines.invariant.so shown c.in_ok-count.ensures.few few in
    let front = front_of (prepend_known c.take_shown.new.ahead (R c.take_shown.new.reader)) c.next_line.new.line.items (prepend_known c.next_line.new.ahead (R c.next_line.new.reader))
    (subst (λ b. IfSome (prepend_known c.take_shown.new.ahead (R c.take_shown.new.reader)) (λ bytes. ReadsSome bytes b c.next_line.new.line.items (prepend_known c.next_line.new.ahead (R c.next_line.new.reader)))) c.if-not-branch.false c.in_ok-next_line.ensures.front) in
    let size : c.len-in-lines.result ≡ length c.next_line.new.line.items = omega (arith, c.len-in-lines.ensures) in
    let fits : length c.next_line.new.line.items ≤ c.lines.left - c.in_ok-count.count = omega (arith, c.if-left-len.false, c.len.ensures) in
    takes_fault takes c.args.none (prepend_known c.args.ahead.now (R c.args.reader.now)) (prepend_known c.take_shown.new.ahead (R c.take_shown.new.reader)) (prepend_known c.next_line.new.ahead (R c.next_line.new.reader)) c.in-Ok.taken.1 c.in-Ok.taken.0 (c.lines.left - c.in_ok-count.count)
    c.next_line.new.line.items c.in-Err-take_numbered.error c.fault_before_the_end-in-Err-take_numbered.result so front fits (omega (arith, few))
    (subst (λ z. TakesAll takes c.in-Ok.taken.1 c.in-Ok.taken.0 (lines_in z) (Err c.in-Err-take_numbered.error)) c.deref.ensures.value c.in-Err-take_numbered.ensures.takes)
    (subst (λ n. IfSome (prepend_known c.next_line.new.ahead (R c.next_line.new.reader)) (λ rest. EndsAs (nat_le (length rest) (c.lines.left - c.in_ok-count.count - n)) c.in-Err-take_numbered.error c.fault_before_the_end-in-Err-take_numbered.result)) size
    c.fault_before_the_end-in-Err-take_numbered.ensures.ends)
