-- Records of any kind, as an application of one screen.
use Rattle.std.specs.Prelude.{ℕ, ◌≡◌, ◌⊎◌, Bool, false, true, ◌&&◌, nat_lt, List, ◌++◌, codes, decimal, Result, Ok, Err, if◌then◌else◌}
use Rattle.ds_codec.specs.declared.size.Mode.{Mode}
use Rattle.ds_codec.specs.declared.size.Mode.TheVariants.{Bits14, Bits16}
use Rattle.ds_codec.specs.declared.size.Size.{Size}
use Rattle.ds_codec.specs.Geometry.{Sizes, cells_of}
use Rattle.scr_layout.specs.Layout.{Declaration}
use Rattle.cli_commands.specs.declared.fault.CommandError.{CommandError}
use Rattle.cli_commands.specs.declared.fault.CommandError.TheVariants.{Fault, ReadFailed, OutOfMemory}
use Rattle.cli_commands.specs.declared.input.sizes.SizeLine.TheVariants.{Allowed}
use Rattle.cli_commands.specs.Held.{answer_seen}
use Rattle.cli_commands.specs.LayoutText.{layout_in}
use Rattle.cli_commands.specs.Records.{Records, records_in}
use Rattle.ds_codec.specs.Same.{same_sizes}
use Rattle.cli_sessions.specs.Prepare.{has_model}
use Rattle.tn_dialogue.specs.declared.screen.Reading.TheVariants.{Any}
use Rattle.cli_dialogues.specs.declared.application.Telling.TheVariants.{Bytes}
use Rattle.cli_dialogues.specs.Applications.{IsOne}
use Rattle.cli_offers.specs.declared.prepare.Prepared.{Prepared}
use Rattle.cli_offers.specs.declared.prepare.Prepared.TheVariants.{Ready, Stops}
use Rattle.cli_offers.specs.Prepare.{no_model}

-- ---- a layout of two sizes, without a field

-- the size that has more cells
abbrev pub larger : Sizes → List ℕ
larger sizes = if nat_lt (cells_of sizes.default) (cells_of sizes.alternate) then codes "alternate" else codes "default"

abbrev pub addresses : Mode → ℕ
addresses Bits14 = 14
addresses Bits16 = 16

abbrev pub size_text : Size → List ℕ
size_text size = decimal size.rows ++ (codes "x" ++ decimal size.cols)

abbrev pub sizes_text : Sizes → List ℕ
sizes_text sizes = codes "default = '" ++ (size_text sizes.default ++ (codes "'\nalternate = '" ++ (size_text sizes.alternate ++ codes "'\n")))

abbrev pub screen_text : Sizes → List ℕ
screen_text sizes = codes "screen = '" ++ (larger sizes ++ (codes "'\naddresses = " ++ (decimal (addresses sizes.mode) ++ codes "\n")))

abbrev pub layout_text : Sizes → List ℕ
layout_text sizes = sizes_text sizes ++ screen_text sizes

-- ---- the application

-- some model has the sizes that were told
abbrev pub is_fit : Sizes → Declaration → Bool
is_fit sizes layout = same_sizes layout.geometry sizes && has_model layout.geometry

-- the records of the text, and a layout of their sizes
pub record IsAny (text : List ℕ) (told : Records) (declared : Declaration) : Type 0 where
  pub records : records_in Allowed text ≡ Ok told
  pub layout : layout_in (layout_text told.geometry) ≡ Ok declared

-- One screen to which any answer will do; or no model has the sizes; or the first fault.
abbrev pub OffersAny : List ℕ → Result Prepared CommandError → Type 0
OffersAny text (Ok (Ready offered)) =
    (told : Records) × (layout : Declaration) × IsAny text told layout × (is_fit told.geometry layout ≡ true) × IsOne layout Any told.records Bytes offered
OffersAny text (Ok (Stops answer)) =
    (told : Records) × (layout : Declaration) × IsAny text told layout × (is_fit told.geometry layout ≡ false) × (answer_seen answer ≡ no_model)
OffersAny text (Err (Fault fault)) =
    (records_in Allowed text ≡ Err fault) ⊎ ((told : Records) × (records_in Allowed text ≡ Ok told) × (layout_in (layout_text told.geometry) ≡ Err fault))
OffersAny text (Err ReadFailed) = ⊥
OffersAny text (Err OutOfMemory) = Unit {0}
