use Rattle.std.proofs.Common.{◌≡◌, ◌<◌, ◌∷◌, [], ◌++◌, length, List, Some, None, sym, ◌∙◌, ap, subst, arith, append_assoc}
use Rattle.ds_places.specs.Places.{IsRising}
use Rattle.ds_screen.specs.Picture.{Picture}
use Rattle.ds_screen.specs.Fields.{attribute_before}
use Rattle.demo_screens.specs.declared.notes.Note.{Note}
use Rattle.demo_screens.specs.Notes.{note_of, LeadBack}
use Rattle.demo_screens.proofs.ModifiedLaws.{itself, modified_rises}
use Rattle.demo_screens.proofs.TypeLaws.{typed, back_noted, back_alone, back_both, listed_alone, listed_more}
use Rattle.demo_screens.proofs.keys.note_typing.Goals as goal

pub add-requires : goal.add-requires
add-requires g c = subst (IsRising itself) (sym c.requires.listed) (modified_rises c.args.screen.now.cells)

pub returns-in_err-add-in-Some-clause-here : goal.returns-in_err-add-in-Some-clause-here
returns-in_err-add-in-Some-clause-here g c before back =
    subst (LeadBack before c.args.screen.now) (sym c.in_ok-take_note-in-Some.ensures.noted) (back_noted before c.args.screen.now c.args.notes.now.items c.in-Some.at c.in-Some.ensures.inside back)

pub returns-in_err-take_note-in-Some-2-clause-here : goal.returns-in_err-take_note-in-Some-2-clause-here
returns-in_err-take_note-in-Some-2-clause-here g c before back =
    subst (LeadBack before c.args.screen.now) (sym (c.in_err-take_note-in-Some-2.ensures.unchanged ∙ c.in_ok-take_note-in-Some.ensures.noted))
    (back_noted before c.args.screen.now c.args.notes.now.items c.in-Some.at c.in-Some.ensures.inside back)

pub returns-in_ok-take_note-in-Some-2-clause-listed : goal.returns-in_ok-take_note-in-Some-2-clause-listed
returns-in_ok-take_note-in-Some-2-clause-listed g c =
    let v : Picture = c.args.screen.now in
    let found : Some c.in-Some.at ≡ attribute_before v.cells v.cursor = c.in-Some.ensures.nearest ∙ ap (attribute_before v.cells) c.cursor-cursor.ensures.value in
    listed_more v c.args.listed.now.items c.add.new.entries.items c.in-Some.at c.requires.accepted c.in-Some.ensures.inside found c.in-Some.ensures.there c.requires.listed
    c.in_ok-add-in-Some.ensures.rising c.in_ok-add-in-Some.ensures.added

pub returns-in_ok-take_note-in-Some-2-clause-ahead : goal.returns-in_ok-take_note-in-Some-2-clause-ahead
returns-in_ok-take_note-in-Some-2-clause-ahead g c before back =
    let v : Picture = c.args.screen.now in
    let q = c.in-Some.at in
    let at : c.cursor-cursor.result ≡ v.cursor = c.cursor-cursor.ensures.value in
    let inside : v.cursor < length v.cells = omega (arith, c.cursor-cursor.ensures.sound.whole, c.cursor-cursor.ensures.sound.cursor_inside) in
    let found : Some q ≡ attribute_before v.cells v.cursor = c.in-Some.ensures.nearest ∙ ap (attribute_before v.cells) at in
    let notes : List Note = c.args.notes.now.items in
    let whole : c.take_note-in-Some.new.notes.items ≡ notes ++ note_of v.cells q ∷ note_of v.cells v.cursor ∷ [] =
    c.in_ok-take_note-in-Some-2.ensures.noted ∙ ap (λ x. c.take_note.new.notes.items ++ note_of v.cells x ∷ []) at
    ∙ ap (λ (ns : List Note). ns ++ note_of v.cells v.cursor ∷ []) c.in_ok-take_note-in-Some.ensures.noted
    ∙ append_assoc notes (note_of v.cells q ∷ []) (note_of v.cells v.cursor ∷ []) in
    subst (LeadBack before (typed v)) (sym whole) (back_both before v notes q inside c.requires.accepted c.in-Some.ensures.inside found back)

pub returns-in_ok-take_note-in-Some-2-clause-here : goal.returns-in_ok-take_note-in-Some-2-clause-here
returns-in_ok-take_note-in-Some-2-clause-here g c before back =
    let v : Picture = c.args.screen.now in
    let at : c.cursor-cursor.result ≡ v.cursor = c.cursor-cursor.ensures.value in
    let inside : c.cursor-cursor.result < length v.cells = omega (arith, at, c.cursor-cursor.ensures.sound.whole, c.cursor-cursor.ensures.sound.cursor_inside) in
    let first : LeadBack before v c.take_note.new.notes.items =
    subst (LeadBack before v) (sym c.in_ok-take_note-in-Some.ensures.noted) (back_noted before v c.args.notes.now.items c.in-Some.at c.in-Some.ensures.inside back) in
    subst (LeadBack before v) (sym c.in_ok-take_note-in-Some-2.ensures.noted) (back_noted before v c.take_note.new.notes.items c.cursor-cursor.result inside first)

pub returns-in_ok-take_note-in-None-clause-listed : goal.returns-in_ok-take_note-in-None-clause-listed
returns-in_ok-take_note-in-None-clause-listed g c =
    let v : Picture = c.args.screen.now in
    let none : None ≡ attribute_before v.cells v.cursor = c.in-None.ensures.nearest ∙ ap (attribute_before v.cells) c.cursor-cursor.ensures.value in
    listed_alone v c.args.listed.now.items c.requires.accepted none c.requires.listed

pub returns-in_ok-take_note-in-None-clause-ahead : goal.returns-in_ok-take_note-in-None-clause-ahead
returns-in_ok-take_note-in-None-clause-ahead g c before back =
    let v : Picture = c.args.screen.now in
    let at : c.cursor-cursor.result ≡ v.cursor = c.cursor-cursor.ensures.value in
    let inside : v.cursor < length v.cells = omega (arith, c.cursor-cursor.ensures.sound.whole, c.cursor-cursor.ensures.sound.cursor_inside) in
    let none : None ≡ attribute_before v.cells v.cursor = c.in-None.ensures.nearest ∙ ap (attribute_before v.cells) at in
    let notes : List Note = c.args.notes.now.items in
    let whole : c.take_note-in-None.new.notes.items ≡ notes ++ note_of v.cells v.cursor ∷ [] =
    c.in_ok-take_note-in-None.ensures.noted ∙ ap (λ x. notes ++ note_of v.cells x ∷ []) at in
    subst (LeadBack before (typed v)) (sym whole) (back_alone before v notes inside c.requires.accepted none back)

pub returns-in_ok-take_note-in-None-clause-here : goal.returns-in_ok-take_note-in-None-clause-here
returns-in_ok-take_note-in-None-clause-here g c before back =
    let v : Picture = c.args.screen.now in
    let at : c.cursor-cursor.result ≡ v.cursor = c.cursor-cursor.ensures.value in
    let inside : c.cursor-cursor.result < length v.cells = omega (arith, at, c.cursor-cursor.ensures.sound.whole, c.cursor-cursor.ensures.sound.cursor_inside) in
    subst (LeadBack before v) (sym c.in_ok-take_note-in-None.ensures.noted) (back_noted before v c.args.notes.now.items c.cursor-cursor.result inside back)
