use Rattle.std.proofs.Common.{◌≡◌, Some, sym}
use Rattle.order_lines.specs.Told.{told_of, told_held}
use Rattle.cli_commands.proofs.SaidPlain.{word_told}
use Rattle.cli_commands.proofs.input.drafts.line_told.Goals as goal

pub returns-in-Some : goal.returns-in-Some
returns-in-Some c =
    let said : Some (told_held c.in-Some.told) ≡ told_of c.args.line.now = rw c.in-Some.is at c.in_ok-told.ensures in
    word_told c.args.size_line c.args.line.now (told_held c.in-Some.told) (sym said)
