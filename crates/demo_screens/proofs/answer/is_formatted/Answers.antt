use Rattle.std.proofs.Common.{◌<◌, length, ◌∙◌, arith}
use Rattle.demo_screens.proofs.SentLaws.{formatted}
use Rattle.demo_screens.proofs.answer.is_formatted.Goals as goal

pub returns : goal.returns
returns g c =
    let cells = c.args.screen.now.cells in
    let some : 0 < length cells = omega (arith, c.size.ensures.sound.whole, c.size.ensures.sound.cursor_inside) in
    c.is_some.ensures ∙ formatted cells c.attr_from.result some c.attr_from.ensures.nearest
