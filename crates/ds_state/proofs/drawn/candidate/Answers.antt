use Rattle.std.proofs.Common.{◌≡◌, ◌∙◌, sym, ap, Some}
use Rattle.ds_screen.specs.Picture.{Picture}
use Rattle.ds_state.specs.Header.{part_seen, part_of}
use Rattle.ds_state.specs.State.{drawn}
use Rattle.ds_state.proofs.Parts.{parts_are, told_by, revived}
use Rattle.ds_state.proofs.drawn.candidate.Goals as goal

pub returns-in_default : goal.returns-in_default
returns-in_default g c =
    λ v whole same.
    let is = c.parts_of.ensures ∙ ap part_of same ∙ parts_are v whole in
    let none = ap part_seen c.in_default.is in
    absurd cc

pub returns-in_default-found : goal.returns-in_default-found
returns-in_default-found g c =
    λ v whole same.
    let told = told_by v whole c.args.state.now _ c.in-Some.ensures same in
    let is = c.in_ok-found.ensures v whole (ap (λ z. z.geometry) told) (ap (λ z. z.drawing) told) in
    let none = c.in_default-found.is in
    absurd cc

pub returns : goal.returns
returns g c =
    λ v whole same.
    let told = told_by v whole c.args.state.now _ c.in-Some.ensures same in
    let is = c.in_ok-found.ensures v whole (ap (λ z. z.geometry) told) (ap (λ z. z.drawing) told) in
    let screen : c.in-Some-found.screen ≡ drawn v = cc in
    ap Some (revived v c.in-Some-found.screen c.set_lock.new.self c.set_aid.new.self _ _ screen c.set_lock.ensures.changed c.set_aid.ensures.changed (ap (λ z. z.lock) told) (ap (λ z. z.aid) told))
