-- The files of an application's screens, and what they tell.
use Rattle.std.specs.Prelude.{ℕ, ◌+◌, List, [], ◌∷◌, ◌++◌, codes, Option, Some, None, slice_get, Result, Ok, Err}
use Rattle.cli_commands.specs.declared.fault.Fault.{Fault}
use Rattle.cli_commands.specs.declared.input.sizes.SizeLine.TheVariants.{Refused}
use Rattle.cli_commands.specs.declared.status.Status.TheVariants.{BadInput}
use Rattle.cli_commands.specs.Fault.{fault_line}
use Rattle.cli_commands.specs.LayoutText.{layout_in}
use Rattle.cli_commands.specs.Printed.{Printed, printed}
use Rattle.cli_commands.specs.Records.{records_in}
use Rattle.scr_layout.specs.Layout.{Declaration}
use Rattle.tn_dialogue.specs.declared.screen.Lead.{Lead}
use Rattle.tn_dialogue.specs.declared.screen.Next.{Next}
use Rattle.tn_dialogue.specs.declared.screen.Next.TheVariants.{Shows}
use Rattle.tn_dialogue.specs.declared.screen.Reading.{Reading}
use Rattle.tn_dialogue.specs.declared.screen.Reading.TheVariants.{Fields}
use Rattle.cli_applications.specs.declared.fault.ManifestFault.{ManifestFault}
use Rattle.cli_applications.specs.declared.fault.ManifestKey.{ManifestKey}
use Rattle.cli_applications.specs.declared.fault.ManifestKey.TheVariants as keys
use Rattle.cli_applications.specs.declared.fault.Why.TheVariants.{Missing}
use Rattle.cli_applications.specs.Fault.{fault_text, at_key, in_screen}
use Rattle.cli_applications.specs.Manifest.{Planned}

-- the bytes of a screen's files, or that one can't be read
pub record Files : Type 0 where
  pub layout : Option (List ℕ)
  pub records : Option (List ℕ)

-- a screen that can be shown
pub record Scene : Type 0 where
  pub layout : Declaration
  pub reading : Reading
  pub records : List (List ℕ)
  pub leads : List Lead
  pub otherwise : Next

-- one step after another, up to the first refusal
infixl 10 ◌>>=◌
abbrev pub ◌>>=◌ : {A B : Type 0} → Result A Printed → (A → Result B Printed) → Result B Printed
(Ok x) >>= f = f x
(Err answer) >>= f = Err answer

-- what is printed of a refusal
abbrev pub refusal : ManifestFault → Printed
refusal fault = printed (fault_text fault ++ codes "\n") BadInput

-- the bytes of a file of the n-th screen
abbrev pub text_read : ManifestKey → ℕ → Option (List ℕ) → Result (List ℕ) Printed
text_read key n None = Err (refusal (in_screen n (at_key key Missing)))
text_read key n (Some text) = Ok text

-- a fault of a file, after its path
abbrev pub fault_printed : List ℕ → Fault → Printed
fault_printed path fault = printed (path ++ (codes ": " ++ fault_line fault)) BadInput

-- what is told of a file, or its fault
abbrev pub told_at : {A : Type 0} → List ℕ → Result A Fault → Result A Printed
told_at path (Ok told) = Ok told
told_at path (Err fault) = Err (fault_printed path fault)

-- a key without a lead shows the screen again
abbrev pub scene : ℕ → Planned → Declaration → List (List ℕ) → Scene
scene n plan layout records = record {
  layout = layout;
  reading = Fields;
  records = records;
  leads = plan.leads;
  otherwise = Shows n;
}

-- the layout, and then the records
abbrev pub scene_read : ℕ → Planned → Files → Result Scene Printed
scene_read n plan files = do
  text ← text_read keys.Layout n files.layout
  layout ← told_at plan.layout (layout_in text)
  input ← text_read keys.Records n files.records
  told ← told_at plan.records (records_in Refused input)
  Ok (scene n plan layout told.records)

abbrev pub no_files : Files
no_files = record { layout = None; records = None }

abbrev pub files_or : Option Files → Files
files_or None = no_files
files_or (Some files) = files

abbrev pub files_at : List Files → ℕ → Files
files_at all n = files_or (slice_get all n)

abbrev pub with_scene : List Files → ℕ → List Scene → Planned → Result (List Scene) Printed
with_scene all n before plan = scene_read n plan (files_at all n) >>= λ one. Ok (before ++ one ∷ [])

-- those from the n-th on, behind those before
abbrev pub scenes_from : List Files → ℕ → List Scene → List Planned → Result (List Scene) Printed
scenes_from all n before [] = Ok before
scenes_from all n before (plan ∷ plans) = with_scene all n before plan >>= λ scenes. scenes_from all (n + 1) scenes plans
