use Rattle.std.proofs.Common.{rules, List, ◌≡◌, ◌≤◌, length, map, refl, sym, ◌∙◌, subst}
use Rattle.ds_codec.specs.Reading.{read_of}
use Rattle.ds_codec.specs.Geometry.{Sizes}
use Rattle.ds_screen.specs.Picture.{Picture}
use Rattle.ds_screen.specs.Outline.{Outlined, IsOutlineOf}
use Rattle.ds_screen.specs.declared.writes.Write.{Write}
use Rattle.ds_screen.specs.Writes.{most_positions}
use Rattle.scr_check.specs.Origins.{noted}
use Rattle.scr_check.specs.Noting.{Keeps}
use Rattle.scr_check.proofs.TakingLaws.{first_one}
use Rattle.scr_check.proofs.OriginLaws.{taken_geometry}
use Rattle.scr_check.proofs.origins.take_noting.Goals as goal

pub returns-in-Ok-clause-room : goal.returns-in-Ok-clause-room
returns-in-Ok-clause-room c = λ taken.
    let v : Picture = c.requires.0 in
    let is : IsOutlineOf c.list_writes.new.outline v = subst (λ (o : Outlined). IsOutlineOf o v) (sym c.list_writes.ensures.unchanged) c.requires.1 in
    let led = c.in-Ok.ensures.takes v is in
    let same : led.0.geometry ≡ v.geometry =
    taken_geometry c.args.index v led.0 (read_of v.geometry.mode c.args.bytes.now) (sym (first_one c.args.index v (read_of v.geometry.mode c.args.bytes.now)) ∙ led.1) in (
      led.0,
      led.2,
      subst (λ n. most_positions led.0.geometry ≤ n) (sym c.note_writes.ensures.whole)
          (subst (λ (g : Sizes). most_positions g ≤ length c.args.slots.now.items) (sym same) c.requires.2),
    )

pub returns-in-Ok-clause-notes : goal.returns-in-Ok-clause-notes
returns-in-Ok-clause-notes c = λ v outlines.
    let is : IsOutlineOf c.list_writes.new.outline v = subst (λ (o : Outlined). IsOutlineOf o v) (sym c.in_ok-list_writes.ensures.unchanged) outlines in
    let same : ◌≡◌ {A = List Write} c.deref.result.now c.list_writes.new.writes.items = search rules in
    let led = c.in-Ok.ensures.takes v is in (
      led.0,
      sym (first_one c.args.index v (read_of v.geometry.mode c.args.bytes.now)) ∙ led.1,
      led.2,
      subst (λ writes. Keeps (map (noted c.args.index) writes) c.args.slots.now.items c.note_writes.new.slots.items) (same ∙ c.in_ok-list_writes.ensures.listed v outlines) c.note_writes.ensures.noted,
    )

pub returns-in-Err-clause-notes : goal.returns-in-Err-clause-notes
returns-in-Err-clause-notes c = λ v outlines.
    let is : IsOutlineOf c.list_writes.new.outline v = subst (λ (o : Outlined). IsOutlineOf o v) (sym c.in_ok-list_writes.ensures.unchanged) outlines in
    ((c.in-Err.field-0, sym (first_one c.args.index v (read_of v.geometry.mode c.args.bytes.now)) ∙ c.in-Err.ensures.takes v is), refl)
