use Rattle.std.specs.String.{string_bytes}
use Rattle.cli_pictures.specs.Codes.{character_on}
use Rattle.cli_pictures.proofs.JsonLaws.{one_character}
use Rattle.cli_pictures.proofs.codes.characters_text.Goals as goal

pub loop-steps-preserved : goal.loop-steps-preserved
loop-steps-preserved c =
    one_character (character_on c.args.screen.now.cells c.args.start) c.loop-steps.steps (string_bytes c.loop-steps.text) _ c.loop-steps.invariant
    c.in_ok-push_character.ensures
