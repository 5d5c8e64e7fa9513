use Rattle.std.proofs.Common.{◌≡◌, length, sym, ◌∙◌, ap, subst, arith}
use Rattle.ds_screen.specs.Picture.{Picture}
use Rattle.demo_screens.specs.Notes.{LeadBack}
use Rattle.demo_screens.proofs.KeyLaws.{none_noted, restored}
use Rattle.demo_screens.proofs.rehearsal.try_demo.Goals as goal

pub put_back-requires : goal.put_back-requires
put_back-requires g c =
    let v : Picture = c.args.screen.now in
    let leads : LeadBack v c.press_demo-sent.new.screen c.press_demo-sent.new.notes.items =
    c.press_demo-sent.ensures.back v (subst (LeadBack v v) (sym c.new-notes.ensures.items) (none_noted v)) in
    leads.alike

pub move_cursor-requires : goal.move_cursor-requires
move_cursor-requires g c =
    let v : Picture = c.args.screen.now in
    let leads : LeadBack v c.press_demo-sent.new.screen c.press_demo-sent.new.notes.items =
    c.press_demo-sent.ensures.back v (subst (LeadBack v v) (sym c.new-notes.ensures.items) (none_noted v)) in
    let whole : length c.put_back.new.screen.cells ≡ length v.cells = ap (λ (w : Picture). length w.cells) c.put_back.ensures ∙ ap length leads.cells in
    omega (arith, whole, c.cursor-cursor.ensures.value, c.cursor-cursor.ensures.sound.whole, c.cursor-cursor.ensures.sound.cursor_inside)

pub returns-clause-kept : goal.returns-clause-kept
returns-clause-kept g c =
    let v : Picture = c.args.screen.now in
    let leads : LeadBack v c.press_demo-sent.new.screen c.press_demo-sent.new.notes.items =
    c.press_demo-sent.ensures.back v (subst (LeadBack v v) (sym c.new-notes.ensures.items) (none_noted v)) in
    restored v c.press_demo-sent.new.screen c.put_back.new.screen c.move_cursor.new.self c.set_lock.new.self c.set_aid.new.self c.press_demo-sent.new.notes.items
    c.cursor-cursor.result c.lock-lock.result c.aid-aid.result leads c.put_back.ensures c.move_cursor.ensures.changed c.set_lock.ensures.changed c.set_aid.ensures.changed
    c.cursor-cursor.ensures.value c.lock-lock.ensures c.aid-aid.ensures
