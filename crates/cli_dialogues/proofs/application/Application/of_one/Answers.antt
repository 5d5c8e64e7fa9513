use Rattle.std.proofs.Common.{◌∙◌, ◌++◌, [], ◌∷◌, map, string_bytes, refl, ap}
use Rattle.tn_dialogue.specs.declared.screen.Next.TheVariants.{Ends}
use Rattle.tn_dialogue.specs.declared.screen.Screen.{Screen}
use Rattle.cli_dialogues.proofs.application.Application.of_one.Goals as goal

pub returns : goal.returns
returns c =
    let screen : Screen = record { layout = c.args.layout; reading = c.args.reading; records = c.args.records; leads = c.new.result; otherwise = Ends } in
    record {
      screen = screen;
      only = c.in_ok-push.ensures.items ∙ ap (λ xs. xs ++ screen ∷ []) c.new-screens.ensures.items;
      layout = refl;
      reading = refl;
      records = refl;
      leads = c.new.ensures.items;
      otherwise = refl;
      names = ap (λ xs. map string_bytes xs) c.new-2.ensures.items;
      first = refl;
      telling = refl;
    }
