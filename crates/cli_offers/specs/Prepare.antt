-- Whether an application can be served, and what is printed where it can't.
use Rattle.std.specs.Prelude.{ℕ, ◌+◌, Bool, true, false, List, [], ◌∷◌, codes, map, Option, Some, None, slice_get, Result, Ok, Err, if◌then◌else◌}
use Rattle.ds_codec.specs.Geometry.{Sizes}
use Rattle.cli_commands.specs.declared.status.Status.TheVariants.{BadInput, Findings}
use Rattle.cli_commands.specs.Printed.{Printed, printed}
use Rattle.ds_codec.specs.Same.{same_sizes}
use Rattle.cli_sessions.specs.Prepare.{has_model}
use Rattle.cli_applications.specs.declared.fault.ManifestKey.TheVariants as keys
use Rattle.cli_applications.specs.declared.fault.Why.TheVariants.{OtherSizes}
use Rattle.cli_applications.specs.Fault.{at_key, in_screen}
use Rattle.cli_offers.specs.Judging.{ways_text}
use Rattle.cli_applications.specs.Manifest.{Declared}
use Rattle.cli_offers.specs.Sources.{Files, Scene, scenes_from, refusal, ◌>>=◌}
use Rattle.cli_offers.specs.Ways.{Shown, erases, ways}

-- ---- the sizes

-- the first screen from the n-th on that is of other sizes
abbrev pub other_from : Sizes → ℕ → List Scene → Option ℕ
other_from sizes n [] = None
other_from sizes n (scene ∷ scenes) = if same_sizes scene.layout.geometry sizes then other_from sizes (n + 1) scenes else Some n

abbrev pub unless_other : Option ℕ → Result (Unit {0}) Printed
unless_other None = Ok tt
unless_other (Some n) = Err (refusal (in_screen n (at_key keys.Layout OtherSizes)))

abbrev pub no_model : Printed
no_model = printed (codes "no model has these sizes\n") BadInput

abbrev pub with_model : Bool → Result (Unit {0}) Printed
with_model true = Ok tt
with_model false = Err no_model

-- all are of the sizes of the first, and some model has them
abbrev pub sized_as : Option Scene → List Scene → Result (Unit {0}) Printed
sized_as None scenes = Err no_model
sized_as (Some scene) scenes =
    unless_other (other_from scene.layout.geometry 0 scenes) >>= λ same. with_model (has_model scene.layout.geometry)

-- ---- what stands against it

abbrev pub shown_of : Declared → List Scene → Shown
shown_of declared scenes = record { first = declared.first; plans = declared.screens; erased = map (λ scene. erases scene.records) scenes }

abbrev pub unless_found : List ℕ → Result (Unit {0}) Printed
unless_found [] = Ok tt
unless_found (byte ∷ text) = Err (printed (byte ∷ text) Findings)

-- The files in turn; then the sizes; then what stands against the ways.
abbrev pub prepare : Declared → List Files → Result (List Scene) Printed
prepare declared files = do
  scenes ← scenes_from files 0 [] declared.screens
  sized ← sized_as (slice_get scenes declared.first) scenes
  good ← unless_found (ways_text declared.screens files (ways (shown_of declared scenes)))
  Ok scenes
