-- A state has one picture.
use Rattle.std.proofs.Common.{◌≡◌, ℕ, List, Some, refl, sym, ap, ◌∙◌}
use Rattle.ds_codec.specs.Geometry.{Sizes}
use Rattle.ds_screen.specs.declared.lock.Lock.{Lock}
use Rattle.ds_screen.specs.Picture.{Picture}
use Rattle.ds_screen.specs.Records.{new_picture}
use Rattle.ds_state.specs.State.{HasOnePicture, IsState, drawn, record_of, state_of}
use Rattle.ds_state.specs.Header.{Part, part_of}
use Rattle.ds_state.proofs.Draws.{draws, drawn_is}
use Rattle.ds_state.proofs.Parts.{parts_are, told_by, revived}

pub one_picture : HasOnePicture
one_picture bytes v w one other =
    let p : Part = record { geometry = v.geometry; lock = v.lock; aid = v.aid; drawing = record_of v } in
    let told = told_by w other.0 (state_of v) p (sym (parts_are v one.0)) (sym one.1 ∙ other.1) in
    let geometry : v.geometry ≡ w.geometry = ap (λ (z : Part). z.geometry) told in
    let bytes_are : record_of v ≡ record_of w = ap (λ (z : Part). z.drawing) told in
    let d = draws v one.0 in
    let is : drawn v ≡ drawn w =
    drawn_is w other.0 v.geometry v.geometry.mode (record_of v) (new_picture v.geometry) (drawn v) d.0 refl geometry bytes_are refl d.1 d.2 in
    revived w (drawn v) (record (drawn v) { lock = v.lock }) v v.lock v.aid is refl refl (ap (λ (z : Part). z.lock) told) (ap (λ (z : Part). z.aid) told)
