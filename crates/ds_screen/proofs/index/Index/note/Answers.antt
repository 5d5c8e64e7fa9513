use Rattle.std.proofs.Common.{cond, eqb, sym, ◌∙◌, ap}
use Rattle.ds_places.specs.Places.{at_place}
use Rattle.ds_screen.specs.Planes.{itself, spot_if}
use Rattle.ds_screen.specs.Listed.{is_any, Listing}
use Rattle.ds_screen.proofs.ListedLaws.{set_listed}
use Rattle.ds_screen.proofs.index.Index.note.Goals as goal

pub returns-else-is_free-clause-noted : goal.returns-else-is_free-clause-noted
returns-else-is_free-clause-noted c = λ cells cell listed lt holds.
    set_listed c.args.self.now _ cells c.args.p c.args.is cell listed lt holds (sym c.is_free.ensures ∙ c.if-is_free.false) (ap (λ (u : Listing). u.marks) c.self.view_is) c.note.ensures.rising
    (λ q. c.note.ensures.noted q ∙ ap (λ t. cond (eqb c.args.p q) (spot_if c.args.p t) (at_place itself c.self.inside.all.entries q)) c.is_any-2.ensures
    ∙ ap (λ l. cond (eqb c.args.p q) (spot_if c.args.p (is_any c.args.is)) (at_place itself l q)) (ap (λ (u : Listing). u.all) c.self.view_is))
