use Rattle.std.proofs.Common.{◌∙◌, ◌≤◌, get_or, ap, arith}
use Rattle.scr_layout.proofs.Sizes.{number_of-parse}
use Rattle.scr_layout.proofs.size_text.number_of.Goals as goal

pub returns-in-49-to-57 : goal.returns-in-49-to-57
returns-in-49-to-57 c =
    let low : 49 ≤ get_or c.args.digits.now 0 0 = omega (arith, ap (λ s. get_or s 0 0) c.as_bytes.ensures.value) in
    c.ok.ensures.value ∙ number_of-parse c.args.digits.now c.parse.result low c.parse.ensures.value.0
