use Rattle.std.proofs.Common.{◌≡◌, false, sym, ◌∙◌, ap}
use Rattle.ds_screen.specs.Picture.{Picture}
use Rattle.ds_keys.specs.declared.key.Key.TheVariants.{Typed}
use Rattle.ds_keys.specs.KeyRuns.{answer_of, is_accepted}
use Rattle.ds_keys.specs.KeyStep.{Step}
use Rattle.demo_screens.proofs.TypeLaws.{typed, back_refused, listed_refused}
use Rattle.demo_screens.proofs.keys.type_once.Goals as goal
use Rattle.demo_screens.proofs.keys.type_once.Goals.{then-can_type+in_ok-note_typing, else-can_type}

pub returns-clause-listed : goal.returns-clause-listed
returns-clause-listed g c =
    let v : Picture = c.args.screen.now in
    let after : c.press-answer.new.screen ≡ typed v = ap (λ (s : Step). s.after) c.press-answer.ensures in
    elim c.if-can_type.branch [
      | then-can_type+in_ok-note_typing w ↦ rw (w.listed-is, after) w.in_ok-note_typing.ensures.listed
      | else-can_type w ↦
          let refused : is_accepted (answer_of v (Typed 0xC1)) ≡ false = sym c.can_type.ensures ∙ w.if-can_type.false in
          rw (w.listed-is, after) (listed_refused v c.args.listed.now.items refused c.requires)
    ]

pub returns-clause-back : goal.returns-clause-back
returns-clause-back g c before back =
    let v : Picture = c.args.screen.now in
    let after : c.press-answer.new.screen ≡ typed v = ap (λ (s : Step). s.after) c.press-answer.ensures in
    elim c.if-can_type.branch [
      | then-can_type+in_ok-note_typing w ↦ rw (w.notes-is, after) (w.in_ok-note_typing.ensures.ahead before back)
      | else-can_type w ↦
          let refused : is_accepted (answer_of v (Typed 0xC1)) ≡ false = sym c.can_type.ensures ∙ w.if-can_type.false in
          rw (w.notes-is, after) (back_refused before v c.args.notes.now.items refused back)
    ]
