use Rattle.std.proofs.Common.{◌∙◌, ap, subst}
use Rattle.ds_codec.specs.declared.size.Size.{Size}
use Rattle.ds_screen.specs.Picture.{Picture, IsSound}
use Rattle.cli_commands.proofs.Rights.{by_rows_and_rest}
use Rattle.cli_commands.proofs.output.demo.press_rights.Goals as goal

pub returns : goal.returns
returns c =
    let columns = c.from-columns.ensures ∙ ap (λ (size : Size). size.cols) (c.size.ensures.value ∙ ap (λ (v : Picture). v.size) c.screen.ensures) in
    by_rows_and_rest c.args.terminal.now c.press_times.new.terminal c.press_times-2.new.terminal c.args.rights _ (subst IsSound c.screen.ensures c.size.ensures.sound)
    columns c.in_ok-press_times.ensures c.in_ok-press_times-2.ensures
