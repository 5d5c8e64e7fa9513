use Rattle.std.proofs.Common.{◌≡◌, length, Ok, Err, sym, ◌∙◌, ap, subst}
use Rattle.ds_screen.specs.Picture.{Picture}
use Rattle.ds_screen.specs.Outline.{IsOutlineOf}
use Rattle.scr_check.specs.Opening.{ready, opening_of}
use Rattle.scr_check.specs.Checker.{Checked, LeadsUnless}
use Rattle.scr_check.proofs.OpenLaw.{opens, opens_not, caught}
use Rattle.scr_check.proofs.checker.Checker.opened.Goals as goal

pub returns-in-Ok : goal.returns-in-Ok
returns-in-Ok c =
    let s = c.self.inside in
    let some : length s.taken.items ≡ 0 → ⊥ = λ none. c.if-self-eq0.false (c.self.invariant.0 ∙ none) in
    let P : Checked → Type 0 = λ z. (v : Picture) × (opening_of z.layout z.records ≡ Ok v) × IsOutlineOf c.caught_up-outline.result v in
    let led = caught s.layout.now s.taken.items s.reached c.caught_up-outline.result (subst (LeadsUnless s.layout.now s.taken.items s.reached) c.in_default.is c.self.invariant.1) c.caught_up-outline.ensures in
    subst P c.self.view_is
    (opens s.layout.now s.taken.items c.caught_up-outline.result some led
    (λ v is. ap (λ size. ready size v) (sym c.size.ensures.value) ∙ c.in-Ok.ensures v is))

pub returns-in-Err : goal.returns-in-Err
returns-in-Err c =
    let s = c.self.inside in
    let some : length s.taken.items ≡ 0 → ⊥ = λ none. c.if-self-eq0.false (c.self.invariant.0 ∙ none) in
    let P : Checked → Type 0 = λ z. opening_of z.layout z.records ≡ Err c.in-Err.finding in
    let led = caught s.layout.now s.taken.items s.reached c.caught_up-outline.result (subst (LeadsUnless s.layout.now s.taken.items s.reached) c.in_default.is c.self.invariant.1) c.caught_up-outline.ensures in
    subst P c.self.view_is
    (opens_not s.layout.now s.taken.items c.caught_up-outline.result c.in-Err.finding some led
    (λ v is. ap (λ size. ready size v) (sym c.size.ensures.value) ∙ c.in-Err.ensures v is))
