use Rattle.std.proofs.Common.{subst}
use Rattle.std.proofs.lemmas.Result.{IfOk-weaker}
use Rattle.ds_codec.specs.Geometry.{Sizes}
use Rattle.ds_screen.specs.Picture.{Picture}
use Rattle.ds_screen.specs.Outline.{IsOutlineOf}
use Rattle.ds_screen.specs.Records.{new_picture}
use Rattle.scr_check.proofs.origins.find_origins.Goals as goal

pub returns : goal.returns
returns c =
    let v : Picture = new_picture c.args.layout.now.geometry in
    let is : IsOutlineOf c.in_ok-outline.outline v = subst (λ (g : Sizes). IsOutlineOf c.in_ok-outline.outline (new_picture g)) c.geometry-geometry.ensures c.in_ok-outline.ensures in
    IfOk-weaker c.note_new.result _ _ (λ origins kept. kept v is) c.note_new.ensures
