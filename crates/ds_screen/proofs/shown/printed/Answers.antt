use Rattle.std.proofs.Common.{ℕ, ◌<◌, get_or, sym, ap, ◌∙◌, subst, arith}
use Rattle.ds_screen.specs.declared.shown.TheConstants.{PRINTED}
use Rattle.ds_screen.proofs.PrintLaws.{printed_right, printed_ascii}
use Rattle.ds_screen.proofs.shown.printed.Goals as goal

pub returns-clause-value : goal.returns-clause-value
returns-clause-value c = ap (λ i. get_or PRINTED i 0) c.from.ensures ∙ printed_right c.args.code (omega arith)

pub returns-clause-ascii : goal.returns-clause-ascii
returns-clause-ascii c =
    let P : ℕ → Type 0 = λ i. get_or PRINTED i 0 < 128 in
    subst P (sym c.from.ensures) (printed_ascii c.args.code (omega arith))
