use Rattle.std.proofs.Common.{rules, ◌≡◌, ◌<◌, replicate, refl, ◌∙◌, ap, subst}
use Rattle.std.proofs.lemmas.List.{length-replicate}
use Rattle.ds_codec.specs.Geometry.{cells_of}
use Rattle.ds_screen.specs.Picture.{blank}
use Rattle.ds_screen.specs.Marks.{IsMarked}
use Rattle.ds_screen.proofs.CharacterLaws.{null_all_real}
use Rattle.ds_screen.proofs.SoundLaws.{some_cells, no_key}
use Rattle.ds_screen.proofs.outline.Outline.new.Goals as goal

pub returns : goal.returns
returns c =
    let count : c.cells.result ≡ cells_of c.args.geometry.default = c.cells.ensures ∙ ap cells_of c.default_size-size.ensures.value in
    record {
      geometry = refl;
      size = c.default_size-size.ensures.value;
      marks = subst (λ n. IsMarked c.make_blank.new.self (replicate n blank)) count c.make_blank.ensures.shown;
      cursor = refl;
      lock = refl;
      sound = record {
        default_good = search rules;
        alternate_good = search rules;
        one_of_two = search rules;
        whole = length-replicate (cells_of c.args.geometry.default) blank;
        cursor_inside = subst (λ s. 0 < cells_of s) c.default_size-size.ensures.value (some_cells c.args.geometry.mode c.default_size-size.result c.default_size-size.ensures.good);
        characters = null_all_real _ _ refl;
        attention = no_key;
      };
    }
