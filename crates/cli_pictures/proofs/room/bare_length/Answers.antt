use Rattle.std.proofs.Common.{◌≡◌, ◌+◌, ◌∙◌, ap, sym, arith}
use Rattle.std.specs.Prelude.{not}
use Rattle.cli_pictures.specs.Room.{is_bare}
use Rattle.cli_pictures.proofs.SearchLaws.{is_first, is_last}
use Rattle.cli_pictures.proofs.room.bare_length.Goals as goal

pub returns-then-not-is_bare-clause-length : goal.returns-then-not-is_bare-clause-length
returns-then-not-is_bare-clause-length c =
    is_first c.args.most c.loop-count.count (λ d. not (is_bare c.args.screen.now.cells (c.args.p + d))) (omega (arith, c.loop-count-test.true)) c.loop-count.invariant
    (ap not (sym c.is_bare.ensures ∙ c.if-not-is_bare.true))

pub returns-clause-length : goal.returns-clause-length
returns-clause-length c =
    let end : c.loop-count.count ≡ c.args.most = omega (arith, c.loop-count-test.false, c.loop-count.auto.count-end) in
    is_last c.args.most (λ d. not (is_bare c.args.screen.now.cells (c.args.p + d))) (λ d lt. c.loop-count.invariant d (omega (arith, lt, end)))
