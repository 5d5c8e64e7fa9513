use Rattle.std.proofs.Common.{rules, ◌≡◌, true}
use Rattle.ds_codec.specs.Character.{is_glyph}
use Rattle.ds_screen.proofs.CharacterLaws.{repeated_all_real}
use Rattle.ds_screen.proofs.screen.Screen.repeat_char.Goals as goal

pub invariant_of-self : goal.invariant_of-self
invariant_of-self g c =
    let real : is_glyph c.args.character ≡ true = search rules in (
      record {
        default_good = search rules;
        alternate_good = search rules;
        one_of_two = search rules;
        whole = search rules;
        cursor_inside = search rules;
        characters = repeated_all_real _ _ c.args.p c.args.stop c.args.character real c.self.invariant.0.characters c.repeat.ensures.stored;
        attention = search rules;
      },
      search rules,
      search rules,
    )

pub returns-clause-sound : goal.returns-clause-sound
returns-clause-sound g c =
    let real : is_glyph c.args.character ≡ true = search rules in
    record {
      default_good = search rules;
      alternate_good = search rules;
      one_of_two = search rules;
      whole = search rules;
      cursor_inside = search rules;
      characters = repeated_all_real _ _ c.args.p c.args.stop c.args.character real c.self.invariant.0.characters c.repeat.ensures.stored;
      attention = search rules;
    }
