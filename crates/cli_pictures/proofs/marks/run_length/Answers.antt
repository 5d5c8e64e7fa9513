use Rattle.std.proofs.Common.{◌≡◌, ◌∙◌, ap, sym, arith}
use Rattle.std.specs.Prelude.{not}
use Rattle.ds_screen.specs.Fields.{is_character}
use Rattle.cli_pictures.specs.Codes.{cell_on}
use Rattle.cli_pictures.proofs.SearchLaws.{is_first, is_last}
use Rattle.cli_pictures.proofs.marks.run_length.Goals as goal

pub returns-then-not-is_character : goal.returns-then-not-is_character
returns-then-not-is_character c =
    is_first c.args.most c.loop-count.count (λ d. not (is_character (cell_on c.args.screen.now.cells c.args.p d))) (omega (arith, c.loop-count-test.true)) c.loop-count.invariant
    (ap not (ap is_character (sym c.cell_on.ensures) ∙ sym c.is_character.ensures ∙ c.if-not-is_character.true))

pub returns : goal.returns
returns c =
    let end : c.loop-count.count ≡ c.args.most = omega (arith, c.loop-count-test.false, c.loop-count.auto.count-end) in
    is_last c.args.most (λ d. not (is_character (cell_on c.args.screen.now.cells c.args.p d))) (λ d lt. c.loop-count.invariant d (omega (arith, lt, end)))
