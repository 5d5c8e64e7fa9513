use Rattle.std.proofs.Common.{◌≡◌, sym, ◌∙◌, ap, subst}
use Rattle.ds_screen.specs.Picture.{Picture}
use Rattle.ds_keys.specs.KeyRuns.{after}
use Rattle.scr_check.specs.Demos.{demo_keys}
use Rattle.demo_screens.specs.Modified.{modified_places}
use Rattle.demo_screens.proofs.KeyLaws.{SameCells, rights_same, enter_same, back_same, demo_pressed}
use Rattle.demo_screens.proofs.rehearsal.press_demo.Goals as goal

pub type_times-requires : goal.type_times-requires
type_times-requires g c =
    let v : Picture = c.args.screen.now in
    let moved : SameCells v c.press_rights.new.screen = subst (SameCells v) (sym c.press_rights.ensures) (rights_same v c.args.demo.rights) in
    c.in_ok-listed.ensures ∙ c.requires ∙ ap modified_places (sym moved.2)

pub returns-in_err-type_times-clause-back : goal.returns-in_err-type_times-clause-back
returns-in_err-type_times-clause-back g c before back =
    let v : Picture = c.args.screen.now in
    let moved : SameCells v c.press_rights.new.screen = subst (SameCells v) (sym c.press_rights.ensures) (rights_same v c.args.demo.rights) in
    c.type_times.ensures.back before (back_same before v c.press_rights.new.screen c.args.notes.now.items moved back)

pub write_listed-requires : goal.write_listed-requires
write_listed-requires g c =
    let typed : Picture = c.type_times.new.screen in
    let entered : SameCells typed c.press_enter.new.screen = subst (SameCells typed) (sym c.press_enter.ensures) (enter_same typed) in
    c.as_slice.ensures.value ∙ c.in_ok-type_times.ensures.listed ∙ ap modified_places (sym entered.2)

pub returns-clause-sent : goal.returns-clause-sent
returns-clause-sent g c =
    let v : Picture = c.args.screen.now in
    let all : c.press_enter.new.screen ≡ after v (demo_keys c.args.demo) =
    demo_pressed v c.press_rights.new.screen c.type_times.new.screen c.press_enter.new.screen c.args.demo c.press_rights.ensures c.in_ok-type_times.ensures.pressed c.press_enter.ensures in
    rw (← all) c.write_listed.ensures

pub returns-clause-back : goal.returns-clause-back
returns-clause-back g c before back =
    let v : Picture = c.args.screen.now in
    let typed : Picture = c.type_times.new.screen in
    let moved : SameCells v c.press_rights.new.screen = subst (SameCells v) (sym c.press_rights.ensures) (rights_same v c.args.demo.rights) in
    let entered : SameCells typed c.press_enter.new.screen = subst (SameCells typed) (sym c.press_enter.ensures) (enter_same typed) in
    back_same before typed c.press_enter.new.screen c.type_times.new.notes.items entered
    (c.type_times.ensures.back before (back_same before v c.press_rights.new.screen c.args.notes.now.items moved back))
