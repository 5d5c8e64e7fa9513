use Rattle.std.proofs.Common.{true, ℕ, ◌==◌, ◌∙◌, ap, arith, subst}
use Rattle.std.specs.Io.KnownBytes.{prepend_known}
use Rattle.cli_commands.specs.NextLine.{EndsPart}
use Rattle.cli_commands.proofs.NextLines.{reads_ended, reads_more, stops_ended, stops_long}
use Rattle.cli_commands.proofs.ShownLines.{ends_long, ends_so, lines_ended, lines_long}
use Rattle.cli_commands.proofs.input.next.next_line.Goals as goal

pub returns-then-ends-clause-line : goal.returns-then-ends-clause-line
returns-then-ends-clause-line g c =
    let took = c.in_ok-ends.ensures.took in
    reads_ended (prepend_known c.args.ahead.now (g.R.GivesBytes.remaining c.args.reader.now)) (prepend_known c.parts.ahead (g.R.GivesBytes.remaining c.parts.reader)) (prepend_known c.take_part.new.ahead (g.R.GivesBytes.remaining c.take_part.new.reader)) c.parts.line.items took.0
    c.take_part.new.line.items c.is_empty.result took.1 c.parts.invariant.taken c.parts.invariant.none took.3
    (subst (λ b. EndsPart b took.0 (prepend_known c.parts.ahead (g.R.GivesBytes.remaining c.parts.reader)) (prepend_known c.take_part.new.ahead (g.R.GivesBytes.remaining c.take_part.new.reader))) c.if-ends.true took.4)
    (c.is_empty.ensures ∙ ap (λ (n : ℕ). n == 0) (omega arith))

pub returns-then-len-ge-READ_LIMIT-clause-line : goal.returns-then-len-ge-READ_LIMIT-clause-line
returns-then-len-ge-READ_LIMIT-clause-line g c =
    let took = c.in_ok-ends.ensures.took in
    reads_more (prepend_known c.args.ahead.now (g.R.GivesBytes.remaining c.args.reader.now)) (prepend_known c.parts.ahead (g.R.GivesBytes.remaining c.parts.reader)) (prepend_known c.take_part.new.ahead (g.R.GivesBytes.remaining c.take_part.new.reader)) c.parts.line.items took.0
    c.take_part.new.line.items took.1 c.parts.invariant.taken c.parts.invariant.none took.3
    (subst (λ b. EndsPart b took.0 (prepend_known c.parts.ahead (g.R.GivesBytes.remaining c.parts.reader)) (prepend_known c.take_part.new.ahead (g.R.GivesBytes.remaining c.take_part.new.reader))) c.if-ends.false took.4)
    (omega (arith, c.len-in-parts.ensures, c.if-len-ge-READ_LIMIT.true))

pub returns-then-ends-clause-front : goal.returns-then-ends-clause-front
returns-then-ends-clause-front g c =
    let took = c.in_ok-ends.ensures.took in
    let ends : EndsPart true took.0 (prepend_known c.parts.ahead (g.R.GivesBytes.remaining c.parts.reader)) (prepend_known c.take_part.new.ahead (g.R.GivesBytes.remaining c.take_part.new.reader)) =
    subst (λ b. EndsPart b took.0 (prepend_known c.parts.ahead (g.R.GivesBytes.remaining c.parts.reader)) (prepend_known c.take_part.new.ahead (g.R.GivesBytes.remaining c.take_part.new.reader))) c.if-ends.true took.4 in
    lines_ended (prepend_known c.args.ahead.now (g.R.GivesBytes.remaining c.args.reader.now)) (prepend_known c.parts.ahead (g.R.GivesBytes.remaining c.parts.reader)) (prepend_known c.take_part.new.ahead (g.R.GivesBytes.remaining c.take_part.new.reader)) c.parts.line.items took.0
    c.take_part.new.line.items c.is_empty.result took.1 c.parts.invariant.taken took.3 ends.1 ends.2
    (c.is_empty.ensures ∙ ap (λ (n : ℕ). n == 0) (omega arith))

pub returns-then-len-ge-READ_LIMIT-clause-front : goal.returns-then-len-ge-READ_LIMIT-clause-front
returns-then-len-ge-READ_LIMIT-clause-front g c =
    let took = c.in_ok-ends.ensures.took in
    lines_long (prepend_known c.args.ahead.now (g.R.GivesBytes.remaining c.args.reader.now)) (prepend_known c.parts.ahead (g.R.GivesBytes.remaining c.parts.reader)) (prepend_known c.take_part.new.ahead (g.R.GivesBytes.remaining c.take_part.new.reader)) c.parts.line.items took.0
    c.take_part.new.line.items took.1 c.parts.invariant.taken took.3 (omega (arith, c.len-in-parts.ensures, c.if-len-ge-READ_LIMIT.true))

pub returns-then-ends-clause-inside : goal.returns-then-ends-clause-inside
returns-then-ends-clause-inside g c =
    let took = c.in_ok-ends.ensures.took in
    stops_ended (prepend_known c.parts.ahead (g.R.GivesBytes.remaining c.parts.reader)) (prepend_known c.take_part.new.ahead (g.R.GivesBytes.remaining c.take_part.new.reader))
    c.parts.line.items took.0 c.take_part.new.line.items took.1 c.parts.invariant.none
    (subst (λ b. EndsPart b took.0 (prepend_known c.parts.ahead (g.R.GivesBytes.remaining c.parts.reader)) (prepend_known c.take_part.new.ahead (g.R.GivesBytes.remaining c.take_part.new.reader))) c.if-ends.true took.4)

pub returns-then-len-ge-READ_LIMIT-clause-inside : goal.returns-then-len-ge-READ_LIMIT-clause-inside
returns-then-len-ge-READ_LIMIT-clause-inside g c =
    let took = c.in_ok-ends.ensures.took in
    stops_long (prepend_known c.parts.ahead (g.R.GivesBytes.remaining c.parts.reader)) (prepend_known c.take_part.new.ahead (g.R.GivesBytes.remaining c.take_part.new.reader))
    c.parts.line.items took.0 c.take_part.new.line.items took.1 c.parts.invariant.none
    (subst (λ b. EndsPart b took.0 (prepend_known c.parts.ahead (g.R.GivesBytes.remaining c.parts.reader)) (prepend_known c.take_part.new.ahead (g.R.GivesBytes.remaining c.take_part.new.reader))) c.if-ends.false took.4)

pub returns-then-ends-clause-ends : goal.returns-then-ends-clause-ends
returns-then-ends-clause-ends g c =
    let took = c.in_ok-ends.ensures.took in
    let ends : EndsPart true took.0 (prepend_known c.parts.ahead (g.R.GivesBytes.remaining c.parts.reader)) (prepend_known c.take_part.new.ahead (g.R.GivesBytes.remaining c.take_part.new.reader)) =
    subst (λ b. EndsPart b took.0 (prepend_known c.parts.ahead (g.R.GivesBytes.remaining c.parts.reader)) (prepend_known c.take_part.new.ahead (g.R.GivesBytes.remaining c.take_part.new.reader))) c.if-ends.true took.4 in
    ends_so (prepend_known c.args.ahead.now (g.R.GivesBytes.remaining c.args.reader.now)) (prepend_known c.parts.ahead (g.R.GivesBytes.remaining c.parts.reader)) (prepend_known c.take_part.new.ahead (g.R.GivesBytes.remaining c.take_part.new.reader))
    c.parts.line.items took.0 c.take_part.new.line.items took.1 c.parts.invariant.taken took.3 ends.1 ends.2

pub returns-then-len-ge-READ_LIMIT-clause-ends : goal.returns-then-len-ge-READ_LIMIT-clause-ends
returns-then-len-ge-READ_LIMIT-clause-ends g c =
    ends_long (prepend_known c.args.ahead.now (g.R.GivesBytes.remaining c.args.reader.now)) (prepend_known c.take_part.new.ahead (g.R.GivesBytes.remaining c.take_part.new.reader))
    c.take_part.new.line.items (omega (arith, c.len-in-parts.ensures, c.if-len-ge-READ_LIMIT.true))
