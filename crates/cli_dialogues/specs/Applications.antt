-- What is offered to terminals.
use Rattle.std.specs.Prelude.{ℕ, ◌≡◌, List, [], ◌∷◌, Option, slice_get}
use Rattle.cli_commands.specs.Held.{records_held}
use Rattle.scr_layout.specs.Layout.{Declaration}
use Rattle.tn_dialogue.specs.declared.screen.Next.TheVariants.{Ends}
use Rattle.tn_dialogue.specs.declared.screen.Reading.{Reading}
use Rattle.tn_dialogue.specs.declared.screen.Screen.{Screen}
use Rattle.cli_dialogues.specs.declared.application.Telling.{Telling}

-- screens, with the name of each or of none; which is shown first; and what is printed of the answers to them
pub record Offered : Type 0 where
  pub screens : List Screen
  pub names : List (List ℕ)
  pub first : ℕ
  pub telling : Telling

-- the name that is printed of the screen of an index
abbrev pub name_of : Offered → ℕ → Option (List ℕ)
name_of offered screen = slice_get offered.names screen

-- one screen without a name, whose keys all lead to the end
pub record IsOne (sized : Declaration) (read : Reading) (sent : List (List ℕ)) (told : Telling) (offered : Offered) : Type 0 where
  pub screen : Screen
  pub only : offered.screens ≡ screen ∷ []
  pub layout : screen.layout ≡ sized
  pub reading : screen.reading ≡ read
  pub records : records_held screen.records.items ≡ sent
  pub leads : screen.leads.items ≡ []
  pub otherwise : screen.otherwise ≡ Ends
  pub names : offered.names ≡ []
  pub first : offered.first ≡ 0
  pub telling : offered.telling ≡ told
