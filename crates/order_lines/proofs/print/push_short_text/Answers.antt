use Rattle.std.proofs.Common.{refl}
use Rattle.order_lines.proofs.Plain.{ascii-text, text-line}
use Rattle.order_lines.proofs.print.push_short_text.Goals as goal

pub push_digits-requires : goal.push_digits-requires
push_digits-requires c =
    rw (text-line _ _ _ c.args.run.now _ _ c.copy_from_slice-2.ensures.after refl c.copy_from_slice.ensures.after c.store_digits.ensures)
    (ascii-text c.args.run.now)

pub returns : goal.returns
returns c =
    rw (text-line _ _ _ c.args.run.now _ _ c.copy_from_slice-2.ensures.after refl c.copy_from_slice.ensures.after c.store_digits.ensures)
    at c.push_digits.ensures
