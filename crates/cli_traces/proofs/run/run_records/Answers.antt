use Rattle.std.proofs.Common.{◌∙◌, ◌+◌, sym, refl, arith, ap, subst, Err}
use Rattle.std.specs.Io.KnownBytes.{prepend_known}
use Rattle.bstr.specs.Text.{without_terminator}
use Rattle.cli_commands.specs.declared.status.Status.TheVariants.{Done, Failed}
use Rattle.cli_traces.specs.Following.{connection}
use Rattle.cli_traces.specs.Held.{following_seen}
use Rattle.cli_traces.specs.Printed.{PrintsLine}
use Rattle.cli_traces.proofs.Runs.{SoFar, begins, nothing_ahead, turn_goes, turn_ends, turn_stops, turn_fails, run_fails, traced_known, read_ends, write_ends, stopped_known, counted_known}
use Rattle.cli_commands.proofs.Causes.{fails_on, stops_on}
use Rattle.cli_traces.proofs.run.run_records.Goals as goal

pub returns-in-Ok-false-clause-prints : goal.returns-in-Ok-false-clause-prints
returns-in-Ok-false-clause-prints g c =
    turn_ends c.args.asked (prepend_known c.loop-number.ahead (g.R.GivesBytes.remaining c.loop-number.reader)) (prepend_known c.next_line.new.ahead (g.R.GivesBytes.remaining c.next_line.new.reader)) (g.W.TakesBytes.contents c.args.writer.now)
    (g.W.TakesBytes.contents c.loop-number.writer) (g.W.TakesBytes.contents c.print_end.new.writer) c.loop-number.number (following_seen c.loop-number.follower)
    c.next_line.new.line.items (g.R.GivesBytes.remaining c.args.reader.now) c.print_end.result c.loop-number.invariant.so_far (rw c.in-Ok-false.field-0-test at c.in-Ok-false.ensures.line)
    (rw c.open_count.ensures at c.print_end.ensures.writes)

pub returns-in-Err-clause-prints : goal.returns-in-Err-clause-prints
returns-in-Err-clause-prints g c =
    run_fails c.args.asked (g.R.GivesBytes.remaining c.args.reader.now) (prepend_known c.loop-number.ahead (g.R.GivesBytes.remaining c.loop-number.reader)) (g.W.TakesBytes.contents c.args.writer.now)
    (g.W.TakesBytes.contents c.loop-number.writer) c.loop-number.number (following_seen c.loop-number.follower) c.status_of.result c.loop-number.invariant.so_far
    c.status_of.ensures.want

pub returns-in-Ok-Stops-clause-prints : goal.returns-in-Ok-Stops-clause-prints
returns-in-Ok-Stops-clause-prints g c =
    turn_stops c.args.asked (prepend_known c.loop-number.ahead (g.R.GivesBytes.remaining c.loop-number.reader)) (prepend_known c.next_line.new.ahead (g.R.GivesBytes.remaining c.next_line.new.reader)) (g.W.TakesBytes.contents c.args.writer.now)
    (g.W.TakesBytes.contents c.loop-number.writer) (g.W.TakesBytes.contents c.print_line.new.writer) c.loop-number.number (following_seen c.loop-number.follower)
    c.next_line.new.line.items (g.R.GivesBytes.remaining c.args.reader.now) (following_seen c.print_line.new.follower) c.loop-number.invariant.so_far
    (rw c.in-Ok-true.field-0-test at c.in-Ok-true.ensures.line)
    (rw (c.without_end.ensures, c.deref.ensures.value, c.in-Ok-Stops.field-0-is) at c.in-Ok-Stops.ensures.prints)

pub returns-in-Err-print_line-clause-prints : goal.returns-in-Err-print_line-clause-prints
returns-in-Err-print_line-clause-prints g c =
    turn_fails c.args.asked (prepend_known c.loop-number.ahead (g.R.GivesBytes.remaining c.loop-number.reader)) (prepend_known c.next_line.new.ahead (g.R.GivesBytes.remaining c.next_line.new.reader)) (g.W.TakesBytes.contents c.args.writer.now)
    (g.W.TakesBytes.contents c.loop-number.writer) (g.W.TakesBytes.contents c.print_line.new.writer) c.loop-number.number (following_seen c.loop-number.follower)
    c.next_line.new.line.items (g.R.GivesBytes.remaining c.args.reader.now) (following_seen c.print_line.new.follower) c.in-Err-print_line.status c.loop-number.invariant.so_far
    (rw c.in-Ok-true.field-0-test at c.in-Ok-true.ensures.line)
    (subst (λ z. PrintsLine c.args.asked c.loop-number.number (following_seen c.loop-number.follower) z (g.W.TakesBytes.contents c.loop-number.writer)
    (Err c.in-Err-print_line.status) (following_seen c.print_line.new.follower) (g.W.TakesBytes.contents c.print_line.new.writer))
    (c.without_end.ensures ∙ ap without_terminator c.deref.ensures.value) c.in-Err-print_line.ensures.prints)

pub loop-number-preserved : goal.loop-number-preserved
loop-number-preserved g c =
    record {
      ready = c.in-Ok-Goes.ensures.ready c.in-Ok-Goes.field-0-is;
      read = c.in-Ok-true.ensures.cause ∙ c.loop-number.invariant.read;
      wrote = c.in-Ok-Goes.ensures.cause ∙ c.loop-number.invariant.wrote;
      so_far = turn_goes c.args.asked (prepend_known c.loop-number.ahead (g.R.GivesBytes.remaining c.loop-number.reader)) (prepend_known c.next_line.new.ahead (g.R.GivesBytes.remaining c.next_line.new.reader)) (g.W.TakesBytes.contents c.args.writer.now)
          (g.W.TakesBytes.contents c.loop-number.writer) (g.W.TakesBytes.contents c.print_line.new.writer) c.loop-number.number (following_seen c.loop-number.follower)
          c.next_line.new.line.items (g.R.GivesBytes.remaining c.args.reader.now) (following_seen c.print_line.new.follower) c.loop-number.invariant.so_far
          (rw c.in-Ok-true.field-0-test at c.in-Ok-true.ensures.line)
          (rw (c.without_end.ensures, c.deref.ensures.value, c.in-Ok-Goes.field-0-is) at c.in-Ok-Goes.ensures.prints);
    }

pub returns-clause-prints : goal.returns-clause-prints
returns-clause-prints g c =
    run_fails c.args.asked (g.R.GivesBytes.remaining c.args.reader.now) (prepend_known c.loop-number.ahead (g.R.GivesBytes.remaining c.loop-number.reader)) (g.W.TakesBytes.contents c.args.writer.now)
    (g.W.TakesBytes.contents c.loop-number.writer) c.loop-number.number (following_seen c.loop-number.follower) Failed c.loop-number.invariant.so_far tt

pub loop-number-init : goal.loop-number-init
loop-number-init g c =
    record {
      ready = c.in-Ok-new.ensures.ready;
      read = refl;
      wrote = refl;
      so_far = subst (λ left. SoFar c.args.asked (g.R.GivesBytes.remaining c.args.reader.now) left (g.W.TakesBytes.contents c.args.writer.now) (g.W.TakesBytes.contents c.args.writer.now) 1 (following_seen c.in-Ok-new.follower))
          (sym (nothing_ahead c.in-Ok.ahead (g.R.GivesBytes.remaining c.args.reader.now) c.in-Ok.ensures))
          (begins c.args.asked (g.R.GivesBytes.remaining c.args.reader.now) (g.W.TakesBytes.contents c.args.writer.now) (following_seen c.in-Ok-new.follower) (c.in-Ok-new.ensures.begins ∙ ap connection c.first.ensures));
    }

pub returns-in-Ok-false-clause-cause : goal.returns-in-Ok-false-clause-cause
returns-in-Ok-false-clause-cause g c =
    traced_known (g.R.GivesBytes.remaining c.args.reader.now) _ _ c.print_end.result
    (write_ends _ _ _ _ c.print_end.result (c.in-Ok-false.ensures.cause ∙ c.loop-number.invariant.read)
    (stops_on _ _ _ Done c.print_end.result c.loop-number.invariant.wrote c.print_end.ensures.cause))

pub returns-in-Err-clause-cause : goal.returns-in-Err-clause-cause
returns-in-Err-clause-cause g c =
    traced_known (g.R.GivesBytes.remaining c.args.reader.now) _ _ c.status_of.result
    (read_ends _ _ _ _ c.status_of.result c.loop-number.invariant.wrote
    (c.status_of.ensures.cause _ _ (fails_on _ _ _ c.in-Err.error c.loop-number.invariant.read c.in-Err.ensures.cause)))

pub returns-in-Err-print_line-clause-cause : goal.returns-in-Err-print_line-clause-cause
returns-in-Err-print_line-clause-cause g c =
    traced_known (g.R.GivesBytes.remaining c.args.reader.now) _ _ c.in-Err-print_line.status
    (write_ends _ _ _ _ c.in-Err-print_line.status (c.in-Ok-true.ensures.cause ∙ c.loop-number.invariant.read)
    (stops_on _ _ _ Done c.in-Err-print_line.status c.loop-number.invariant.wrote c.in-Err-print_line.ensures.cause))

pub returns-in-Ok-Stops-clause-cause : goal.returns-in-Ok-Stops-clause-cause
returns-in-Ok-Stops-clause-cause g c =
    let read = c.in-Ok-true.ensures.cause ∙ c.loop-number.invariant.read in
    let wrote = c.in-Ok-Stops.ensures.cause ∙ c.loop-number.invariant.wrote in
    stopped_known (g.R.GivesBytes.remaining c.args.reader.now) _ _ (omega arith)

pub returns-clause-cause : goal.returns-clause-cause
returns-clause-cause g c =
    counted_known c.args.asked (g.R.GivesBytes.remaining c.args.reader.now) (prepend_known c.loop-number.ahead (g.R.GivesBytes.remaining c.loop-number.reader)) (g.W.TakesBytes.contents c.args.writer.now)
    (g.W.TakesBytes.contents c.loop-number.writer) c.loop-number.number (g.R.GivesBytes.failures c.args.reader.now + g.W.TakesBytes.failures c.args.writer.now)
    (g.R.GivesBytes.failures c.loop-number.reader + g.W.TakesBytes.failures c.loop-number.writer) (following_seen c.loop-number.follower) c.loop-number.invariant.so_far (omega (arith, c.loop-number-test.false))
