-- Screens and answers as the program holds them.
use Rattle.std.specs.Prelude.{◌≡◌, List, map, Result, Ok, Err}
use Rattle.std.specs.Global.{Vec}
use Rattle.cli_commands.specs.Held.{answer_seen, records_held}
use Rattle.cli_commands.specs.Printed.{Printed}
use Rattle.tn_dialogue.specs.declared.screen.Screen.{Screen}
use Rattle.cli_offers.specs.declared.sources.Stop.{Stop}
use Rattle.cli_offers.specs.declared.sources.Stop.TheVariants.{Answers, OutOfMemory}
use Rattle.cli_offers.specs.Sources.{Scene}

abbrev pub scene_seen : Screen → Scene
scene_seen screen = record {
  layout = screen.layout;
  reading = screen.reading;
  records = records_held screen.records.items;
  leads = screen.leads.items;
  otherwise = screen.otherwise;
}

abbrev pub scenes_held : List Screen → List Scene
scenes_held screens = map scene_seen screens

abbrev pub scenes_seen : Vec Screen → List Scene
scenes_seen screens = scenes_held screens.items

-- a result, seen by view, is what is due, unless memory ran out
abbrev pub Reads : {A B : Type 0} → (A → B) → Result A Stop → Result B Printed → Type 0
Reads view (Ok read) due = due ≡ Ok (view read)
Reads view (Err (Answers answer)) due = due ≡ Err (answer_seen answer)
Reads view (Err OutOfMemory) due = Unit {0}
