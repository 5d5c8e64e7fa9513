use Rattle.std.proofs.Common.{◌≡◌, ◌+◌, ◌<◌, ◌*◌, length, ◌∙◌, ap, arith}
use Rattle.ds_codec.specs.declared.size.Size.{Size}
use Rattle.cli_pictures.proofs.RowLaws.{next_fits}
use Rattle.cli_pictures.proofs.colored.ends_run.Goals as goal

pub look_at-requires : goal.look_at-requires
look_at-requires c =
    let whole : length c.args.screen.now.cells ≡ c.args.screen.now.size.rows * c.args.screen.now.size.cols = c.size.ensures.sound.whole in
    let columns : c.from-columns.result ≡ c.args.screen.now.size.cols = c.from-columns.ensures ∙ ap (λ (size : Size). size.cols) c.size.ensures.value in
    let next : c.args.p + 1 < c.args.screen.now.size.rows * c.args.screen.now.size.cols =
    next_fits c.args.screen.now.size.rows c.args.screen.now.size.cols c.args.p (omega (arith, c.requires, whole)) (λ e. c.if-p-columns-eq0.false (rw columns e)) in
    omega (arith, next, whole)
