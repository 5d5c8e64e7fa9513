use Rattle.std.proofs.Common.{rules, ◌≡◌, ◌<◌, replicate, ◌∙◌, ap, refl, subst}
use Rattle.std.proofs.lemmas.List.{length-replicate}
use Rattle.ds_codec.specs.Geometry.{cells_of, IsGood}
use Rattle.ds_screen.specs.Picture.{blank}
use Rattle.ds_screen.specs.Marks.{IsMarked}
use Rattle.ds_screen.proofs.CharacterLaws.{null_all_real}
use Rattle.ds_screen.proofs.SoundLaws.{some_cells, no_key}
use Rattle.ds_screen.proofs.outline.Outline.restart.Goals as goal

pub returns : goal.returns
returns c =
    let own : c.self.inside.geometry ≡ c.args.self.now.geometry = ap (λ o. o.geometry) c.self.view_is in
    let size : c.default_size-size.result ≡ c.args.self.now.geometry.default = c.default_size-size.ensures.value ∙ ap (λ g. g.default) own in
    let count : c.cells.result ≡ cells_of c.args.self.now.geometry.default = c.cells.ensures ∙ ap cells_of size in
    let mode : c.self.inside.geometry.mode ≡ c.args.self.now.geometry.mode = ap (λ g. g.mode) own in
    record {
      geometry = own;
      size = size;
      marks = subst (λ n. IsMarked c.make_blank.new.self (replicate n blank)) count c.make_blank.ensures.shown;
      cursor = refl;
      lock = refl;
      sound = record {
        default_good = subst (λ s. IsGood c.args.self.now.geometry.mode s) size (subst (λ m. IsGood m c.default_size-size.result) mode c.default_size-size.ensures.good);
        alternate_good = subst (λ s. IsGood c.args.self.now.geometry.mode s) (c.alternate_size-alternate.ensures.value ∙ ap (λ g. g.alternate) own) (subst (λ m. IsGood m c.alternate_size-alternate.result) mode c.alternate_size-alternate.ensures.good);
        one_of_two = search rules;
        whole = length-replicate (cells_of c.args.self.now.geometry.default) blank;
        cursor_inside = subst (λ s. 0 < cells_of s) size (some_cells c.args.self.now.geometry.mode c.default_size-size.result (subst (λ m. IsGood m c.default_size-size.result) mode c.default_size-size.ensures.good));
        characters = null_all_real _ _ refl;
        attention = no_key;
      };
    }
