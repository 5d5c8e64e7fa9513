use Rattle.std.proofs.Common.{rules, length, ◌∙◌, ap}
use Rattle.std.proofs.lemmas.List.{length-replicate}
use Rattle.ds_screen.specs.Picture.{blank}
use Rattle.ds_screen.proofs.CharacterLaws.{null_all_real}
use Rattle.ds_screen.proofs.SoundLaws.{some_cells}
use Rattle.ds_screen.proofs.screen.Screen.erase_default.Goals as goal

pub invariant_of-self : goal.invariant_of-self
invariant_of-self g c = (
  record {
    default_good = search rules;
    alternate_good = search rules;
    one_of_two = search rules;
    whole = ap length c.clear.ensures.nulls ∙ length-replicate c.cells.result blank ∙ c.cells.ensures;
    cursor_inside = some_cells c.self.inside.geometry.mode c.default_size-size.result c.default_size-size.ensures.good;
    characters = null_all_real _ _ c.clear.ensures.nulls;
    attention = search rules;
  },
  search rules,
  search rules,
)

pub returns-clause-sound : goal.returns-clause-sound
returns-clause-sound g c =
    record {
      default_good = search rules;
      alternate_good = search rules;
      one_of_two = search rules;
      whole = ap length c.clear.ensures.nulls ∙ length-replicate c.cells.result blank ∙ c.cells.ensures;
      cursor_inside = some_cells c.self.inside.geometry.mode c.default_size-size.result c.default_size-size.ensures.good;
      characters = null_all_real _ _ c.clear.ensures.nulls;
      attention = search rules;
    }
