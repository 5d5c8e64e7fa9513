use Rattle.std.proofs.Common.{sym, ◌∙◌, ap, inl, inr}
use Rattle.ds_screen.specs.Picture.{Picture}
use Rattle.ds_screen.specs.Fields.{is_open}
use Rattle.demo_screens.proofs.TypeLaws.{accepted_free, accepted_waiting, accepted_error}
use Rattle.demo_screens.proofs.keys.can_type.Goals as goal

pub returns-in-Free : goal.returns-in-Free
returns-in-Free g c =
    let v : Picture = c.args.screen.now in
    c.is_open.ensures ∙ ap (is_open v.cells) c.cursor.ensures.value ∙ sym (accepted_free v (sym c.lock.ensures ∙ c.in-Free.is))

pub returns-in-Waiting : goal.returns-in-Waiting
returns-in-Waiting g c =
    elim c.in-Waiting.is [
      | inl waiting ↦ sym (accepted_waiting c.args.screen.now (sym c.lock.ensures ∙ waiting))
      | inr error ↦ sym (accepted_error c.args.screen.now (sym c.lock.ensures ∙ error))
    ]
