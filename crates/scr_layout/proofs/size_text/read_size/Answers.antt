use Rattle.std.proofs.Common.{lit<}
use Rattle.scr_layout.specs.SizeText.{size_of_text, is_x}
use Rattle.scr_layout.proofs.Sizes.{list_any-none}
use Rattle.scr_layout.proofs.size_text.read_size.Goals as goal

pub returns-in_err-rows : goal.returns-in_err-rows
unfolding size_of_text
returns-in_err-rows c =
    rw (c.from_residual.ensures, list_any-none is_x c.args.text.now (c.in_err-rows.ensures.byte (lit< tt) (λ w o h. h)))
