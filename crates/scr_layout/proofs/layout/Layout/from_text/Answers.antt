use Rattle.std.proofs.Common.{ℕ, subst, List, Result, Ok, Err, IfOk}
use Rattle.scr_layout.specs.declared.fault.LayoutFault.{LayoutFault}
use Rattle.scr_layout.specs.declared.fault.LayoutError.{LayoutError}
use Rattle.scr_layout.specs.Layout.{Declaration, layout_of}
use Rattle.scr_layout.specs.Results.{Gives}
use Rattle.scr_layout.specs.Says.{TextSays}
use Rattle.scr_layout.proofs.ReadLaw.{layout_of-read}
use Rattle.scr_layout.proofs.SaysLaw.{layout_of-says}
use Rattle.scr_layout.proofs.layout.Layout.from_text.Goals as goal

says : (text : List ℕ) (r : Result Declaration LayoutError) → Gives (λ l. l) r (layout_of text) → IfOk r (TextSays text)
says text (Ok layout) h = layout_of-says text layout h
says text (Err e) h = tt

pub returns-clause-says : goal.returns-clause-says
returns-clause-says c = says c.args.text.now c.read.result c.read.ensures.exact

pub returns-clause-only : goal.returns-clause-only
returns-clause-only c = λ layout said.
    let P : Result Declaration LayoutFault → Type 0 = λ due. Gives (λ l. l) c.read.result due in
    subst P (layout_of-read c.args.text.now layout said) c.read.ensures.exact
