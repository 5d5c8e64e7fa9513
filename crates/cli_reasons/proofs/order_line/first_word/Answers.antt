use Rattle.std.proofs.Common.{lit<, refl}
use Rattle.scr_layout.proofs.Sizes.{list_any-none}
use Rattle.cli_reasons.specs.OrderLine.{is_space}
use Rattle.cli_reasons.proofs.order_line.first_word.Goals as goal

pub returns-in-None-clause-word : goal.returns-in-None-clause-word
returns-in-None-clause-word c =
    rw (list_any-none is_space c.args.line.now (c.in-None.ensures.byte (lit< tt) (λ w o h. h))) refl
