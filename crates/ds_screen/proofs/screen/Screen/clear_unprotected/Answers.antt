use Rattle.std.proofs.Common.{rules}
use Rattle.ds_screen.proofs.CharacterLaws.{clear_all_real}
use Rattle.ds_screen.proofs.screen.Screen.clear_unprotected.Goals as goal

pub invariant_of-self : goal.invariant_of-self
invariant_of-self g c = (
  record {
    default_good = search rules;
    alternate_good = search rules;
    one_of_two = search rules;
    whole = search rules;
    cursor_inside = search rules;
    characters = clear_all_real _ _ c.self.invariant.0.characters c.clear_unprotected-self-inside.ensures.stored;
    attention = search rules;
  },
  search rules,
  search rules,
)

pub returns-clause-sound : goal.returns-clause-sound
returns-clause-sound g c =
    record {
      default_good = search rules;
      alternate_good = search rules;
      one_of_two = search rules;
      whole = search rules;
      cursor_inside = search rules;
      characters = clear_all_real _ _ c.self.invariant.0.characters c.clear_unprotected-self-inside.ensures.stored;
      attention = search rules;
    }
