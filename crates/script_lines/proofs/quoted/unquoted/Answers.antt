use Rattle.std.proofs.Common.{arith}
use Rattle.script_lines.proofs.QuotedLaws.{begins, goes_on, is_ended, is_closed, is_missing}
use Rattle.script_lines.proofs.quoted.unquoted.Goals as goal

pub bytes-init : goal.bytes-init
bytes-init c = begins c.new-text.result.items c.args.bytes.now c.new-text.ensures.items

pub returns-in-Nothing-clause-text : goal.returns-in-Nothing-clause-text
returns-in-Nothing-clause-text c = is_missing c.bytes.text.items c.bytes.rest.now c.args.bytes.now c.bytes.invariant c.in-Nothing.ensures.taken

pub returns-in-Ends-clause-text : goal.returns-in-Ends-clause-text
returns-in-Ends-clause-text c = is_ended c.bytes.text.items c.bytes.rest.now c.in-Ends.after.now c.args.bytes.now c.bytes.invariant c.in-Ends.ensures.taken

pub returns-in-Ends-clause-shorter : goal.returns-in-Ends-clause-shorter
returns-in-Ends-clause-shorter c = let before = c.bytes.invariant.shorter in let less = c.in-Ends.ensures.shorter in omega (arith, before, less)

pub returns-in-Closes-clause-text : goal.returns-in-Closes-clause-text
returns-in-Closes-clause-text c =
    is_closed c.bytes.text.items c.push.new.self.items c.bytes.rest.now c.in-Closes.after.now c.args.bytes.now c.bytes.invariant c.in-Closes.ensures.taken c.in_ok-push-in-Closes.ensures.items

pub returns-in-Closes-clause-shorter : goal.returns-in-Closes-clause-shorter
returns-in-Closes-clause-shorter c = let before = c.bytes.invariant.shorter in let less = c.in-Closes.ensures.shorter in omega (arith, before, less)

pub bytes-preserved : goal.bytes-preserved
bytes-preserved c =
    goes_on c.bytes.text.items c.push-in-One.new.self.items c.bytes.rest.now c.in-One.after.now c.args.bytes.now c.in-One.byte c.bytes.invariant c.in-One.ensures.taken
    c.in_ok-push-in-One.ensures.items c.in-One.ensures.shorter
