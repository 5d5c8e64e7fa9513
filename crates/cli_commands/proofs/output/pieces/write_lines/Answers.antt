use Rattle.std.proofs.Common.{subst, sym, refl, ◌∙◌, inr}
use Rattle.std.proofs.lemmas.List.{drop_more}
use Rattle.std.specs.List.{flat_map}
use Rattle.std.specs.String.{string_bytes}
use Rattle.cli_commands.proofs.Causes.{sent, unsent}
use Rattle.cli_commands.proofs.Pieces.{goes_on, ends_at, stops}
use Rattle.cli_commands.specs.Causes.{HasFailed}
use Rattle.cli_commands.proofs.output.pieces.write_lines.Goals as goal

pub returns-in-Err-clause-prints : goal.returns-in-Err-clause-prints
returns-in-Err-clause-prints g c =
    let at = drop_more c.args.all.now c.loop-one.one-index c.one-item.result c.loop-one-test.true in
    let here = rw (sym c.one-item.is) at at in
    stops (g.W.TakesBytes.contents c.args.writer.now) (g.W.TakesBytes.contents c.loop-one.writer) (g.W.TakesBytes.contents c.write_on.new.writer) (flat_map g.T.PrintsLines.lines c.args.all.now)
    (string_bytes c.loop-one.piece) _ _ c.in-Err.status (rw here at c.loop-one.invariant.so) c.in-Err.ensures.stops

pub loop-one-preserved : goal.loop-one-preserved
loop-one-preserved g c =
    let at = drop_more c.args.all.now c.loop-one.one-index c.one-item.result c.loop-one-test.true in
    let here = rw (sym c.one-item.is) at at in
    record {
      so = goes_on (g.W.TakesBytes.contents c.args.writer.now) (g.W.TakesBytes.contents c.loop-one.writer) (g.W.TakesBytes.contents c.write_on.new.writer) (flat_map g.T.PrintsLines.lines c.args.all.now)
          (string_bytes c.loop-one.piece) _ _ _ (rw here at c.loop-one.invariant.so) c.in_default.ensures.on;
      cause = c.in_default.ensures.sent ∙ c.loop-one.invariant.cause;
    }

pub returns-clause-prints : goal.returns-clause-prints
returns-clause-prints g c =
    ends_at (g.W.TakesBytes.contents c.args.writer.now) (g.W.TakesBytes.contents c.loop-one.writer) (g.W.TakesBytes.contents c.write_text.new.writer) (flat_map g.T.PrintsLines.lines c.args.all.now)
    (string_bytes c.loop-one.piece) _ c.loop-one.invariant.so (rw c.as_bytes.ensures.value at c.write_text.ensures.front)

pub returns-then-write_text-clause-cause : goal.returns-then-write_text-clause-cause
returns-then-write_text-clause-cause g c =
    (refl, sent (g.W.TakesBytes.failures c.loop-one.writer) (g.W.TakesBytes.failures c.write_text.new.writer) c.write_text.result c.if-write_text.true c.write_text.ensures.cause ∙ c.loop-one.invariant.cause)

pub returns-clause-cause : goal.returns-clause-cause
returns-clause-cause g c =
    inr (subst (λ n. HasFailed n (g.W.TakesBytes.failures c.write_text.new.writer)) c.loop-one.invariant.cause
    (unsent (g.W.TakesBytes.failures c.loop-one.writer) (g.W.TakesBytes.failures c.write_text.new.writer) c.write_text.result c.if-write_text.false c.write_text.ensures.cause))
