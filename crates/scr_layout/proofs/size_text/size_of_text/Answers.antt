use Rattle.std.proofs.Common.{◌≡◌, ◌∙◌, ℕ, ap, sym, List, Option, Some, None, IfSome}
use Rattle.ds_codec.specs.declared.size.Size.{Size}
use Rattle.ds_codec.specs.declared.size.Mode.{Mode}
use Rattle.ds_codec.specs.Geometry.{IsGood}
use Rattle.scr_layout.specs.SizeText.{size_of_text, size_text}
use Rattle.scr_layout.proofs.SizeLaw.{size_of_text-spelled, size_text-read}
use Rattle.scr_layout.proofs.LayoutLaw.{size_of_text-good}
use Rattle.scr_layout.proofs.size_text.size_of_text.Goals as goal

spelled : (mode : Mode) (text : List ℕ) (r : Option Size) → r ≡ size_of_text mode text → IfSome r (λ size. IsGood mode size × (text ≡ size_text size))
spelled mode text None e = tt
spelled mode text (Some size) e = (size_of_text-good mode text size (sym e), size_of_text-spelled mode text size (sym e))

pub returns-clause-only : goal.returns-clause-only
returns-clause-only c = λ size good same. c.read_size.ensures ∙ ap (size_of_text c.args.mode) same ∙ size_text-read c.args.mode size good

pub returns-clause-spelled : goal.returns-clause-spelled
returns-clause-spelled c = spelled c.args.mode c.args.text.now c.read_size.result c.read_size.ensures
