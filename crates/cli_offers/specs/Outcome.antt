-- What a manifest and its files lead to, as the program holds it.
use Rattle.std.specs.Prelude.{ℕ, ◌≡◌, List, map, Result, Ok, Err}
use Rattle.cli_commands.specs.Held.{answer_seen}
use Rattle.cli_dialogues.specs.declared.application.Telling.{Telling}
use Rattle.cli_dialogues.specs.Applications.{Offered}
use Rattle.cli_offers.specs.declared.prepare.Prepared.{Prepared}
use Rattle.cli_offers.specs.declared.prepare.Prepared.TheVariants.{Ready, Stops}
use Rattle.cli_offers.specs.declared.sources.Stop.{Stop}
use Rattle.cli_offers.specs.declared.sources.Stop.TheVariants.{Answers, OutOfMemory}
use Rattle.cli_offers.specs.Held.{scenes_held}
use Rattle.cli_applications.specs.Manifest.{Declared, Planned}
use Rattle.cli_offers.specs.Prepare.{prepare}
use Rattle.cli_offers.specs.Sources.{Files}

abbrev pub names_of : List Planned → List (List ℕ)
names_of plans = map (λ plan. plan.name) plans

-- the screens that were prepared, under their names
pub record IsOf (declared : Declared) (files : List Files) (told : Telling) (offered : Offered) : Type 0 where
  pub screens : prepare declared files ≡ Ok (scenes_held offered.screens)
  pub names : offered.names ≡ names_of declared.screens
  pub first : offered.first ≡ declared.first
  pub telling : offered.telling ≡ told

abbrev pub PreparesApplication : Declared → List Files → Telling → Result Offered Stop → Type 0
PreparesApplication declared files telling (Ok offered) = IsOf declared files telling offered
PreparesApplication declared files telling (Err (Answers answer)) = prepare declared files ≡ Err (answer_seen answer)
PreparesApplication declared files telling (Err OutOfMemory) = Unit {0}

-- the application, or what is printed in its place; unless memory ran out
abbrev pub Prepares : {E : Type 0} → Declared → List Files → Telling → Result Prepared E → Type 0
Prepares declared files telling (Ok (Ready offered)) = IsOf declared files telling offered
Prepares declared files telling (Ok (Stops answer)) = prepare declared files ≡ Err (answer_seen answer)
Prepares declared files telling (Err error) = Unit {0}
