use Rattle.std.proofs.Common.{◌≡◌, length, drop, refl, ap, sym, ◌∙◌, arith}
use Rattle.std.proofs.lemmas.List.{length-append}
use Rattle.std.specs.Io.KnownBytes.{prepend_known}
use Rattle.cli_commands.proofs.Ahead.{all_read, at_end, consumes_kept, consumes_more, consumes_none, shown_taken}
use Rattle.cli_commands.proofs.Answered.{alike}
use Rattle.cli_commands.proofs.input.bytes.read_text.Goals as goal

pub pieces-init : goal.pieces-init
pieces-init g c =
    record {
      taken = rw (c.in_ok-ahead.ensures, c.new-text.ensures.items) (consumes_none (g.R.GivesBytes.remaining c.args.reader.now));
      few = rw c.new-text.ensures.items (omega arith);
      cause = refl;
    }

pub pieces-preserved : goal.pieces-preserved
pieces-preserved g c =
    let R = g.R.GivesBytes.remaining in
    let seen = c.front-seen.result.now in
    let all = prepend_known c.pieces.ahead (R c.pieces.reader) in
    let part = shown_taken all (R c.fill.new.reader) c.fill.new.self c.shown.result.now seen c.shown.ensures c.in_ok-fill.ensures.bytes c.front-seen.ensures.front c.front-seen.ensures.inside in
    record {
      taken = rw (c.consume.ensures, c.in_ok-extend_from_slice.ensures.items)
          (consumes_more (R c.args.reader.now) all (prepend_known (drop (length seen) c.fill.new.self) (R c.fill.new.reader)) c.pieces.text.items seen c.pieces.invariant.taken part);
      few = rw c.in_ok-extend_from_slice.ensures.items (omega (arith, length-append c.pieces.text.items seen, c.front-seen.ensures.few, c.pieces.invariant.few, c.len.ensures, c.len-in-pieces.ensures, c.pieces-test.true));
      cause = c.in_ok-fill.ensures.cause ∙ c.pieces.invariant.cause;
    }

pub returns-then-count-eq0-clause-bytes : goal.returns-then-count-eq0-clause-bytes
returns-then-count-eq0-clause-bytes g c =
    let R = g.R.GivesBytes.remaining in
    let seen = c.front-seen.result.now in
    let all = prepend_known c.pieces.ahead (R c.pieces.reader) in
    let new = prepend_known c.fill.new.self (R c.fill.new.reader) in
    let none : length seen ≡ 0 = omega (arith, c.if-count-eq0.true) in
    let nothing : length c.fill.new.self ≡ 0 = ap length (sym c.shown.ensures) ∙ c.front-seen.ensures.some (omega (arith, c.pieces-test.true, c.len.ensures, c.len-in-pieces.ensures)) none in
    alike (R c.args.reader.now) c.pieces.text.items
    (all_read (R c.args.reader.now) new c.pieces.text.items (consumes_kept (R c.args.reader.now) all new c.pieces.text.items c.pieces.invariant.taken c.in_ok-fill.ensures.bytes)
    c.pieces.invariant.few (λ short. at_end (R c.fill.new.reader) c.fill.new.self nothing c.in_ok-fill.ensures.end))

pub returns-clause-bytes : goal.returns-clause-bytes
returns-clause-bytes g c =
    let R = g.R.GivesBytes.remaining in
    alike (R c.args.reader.now) c.pieces.text.items
    (all_read (R c.args.reader.now) (prepend_known c.pieces.ahead (R c.pieces.reader)) c.pieces.text.items c.pieces.invariant.taken c.pieces.invariant.few
    (λ short. absurd (omega (arith, short, c.len.ensures, c.pieces-test.false))))
