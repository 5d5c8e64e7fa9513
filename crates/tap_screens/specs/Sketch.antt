-- The draft of a screen, and what is left of it in a folder.
use Rattle.std.specs.Prelude.{ℕ, List, [], ◌∷◌, ◌++◌, codes, map, Option, Some, None, Result, Ok, Err}
use Rattle.std.specs.List.{flat_map}
use Rattle.hex.specs.Hex.{encode_upper}
use Rattle.ds_codec.specs.Geometry.{Sizes}
use Rattle.ds_screen.specs.Picture.{Picture}
use Rattle.scr_layout.specs.declared.fault.LayoutFault.{LayoutFault}
use Rattle.scr_check.specs.declared.finding.Finding.{Finding}
use Rattle.scr_check.specs.FindingText.{finding_text}
use Rattle.scr_draft.specs.Draft.{drafted}
use Rattle.scr_draft.specs.Opened.{opened}
use Rattle.cli_commands.specs.declared.fault.Fault.TheVariants.{LayoutRefused}
use Rattle.cli_commands.specs.Fault.{fault_text}
use Rattle.tn_session.specs.Kept.{Kept}
use Rattle.tap_screens.specs.Text.{line_after, first_line}

-- the layout that `draft` prints, or the line that it prints in its place
pub data Sketch : Type 0 where
  layout : List ℕ → Sketch
  flaw : List ℕ → Sketch

abbrev pub sketch_drafted : Result (List ℕ) LayoutFault → Sketch
sketch_drafted (Ok text) = layout text
sketch_drafted (Err fault) = flaw (fault_text (LayoutRefused fault))

abbrev pub sketch_opened : Result Picture Finding → Sketch
sketch_opened (Ok v) = sketch_drafted (drafted v)
sketch_opened (Err finding) = flaw (finding_text [] finding)

abbrev pub sketch_of : Sizes → List (List ℕ) → Sketch
sketch_of geometry records = sketch_opened (opened geometry records)

abbrev pub sketch_line : Sketch → List ℕ
sketch_line (layout text) = first_line text
sketch_line (flaw line) = line

abbrev pub bytes_kept : List Kept → List (List ℕ)
bytes_kept kept = map (λ one. one.bytes) kept

-- ---- what is left

-- the records in hexadecimal, one a line, and the draft
pub record Leaf : Type 0 where
  pub records : List ℕ
  pub layout : List ℕ

abbrev pub records_text : List (List ℕ) → List ℕ
records_text records = flat_map (λ bytes. line_after [] (encode_upper bytes)) records

abbrev pub leaf_of : List (List ℕ) → Sketch → List Leaf
leaf_of records (layout text) = record { records = records_text records; layout = text } ∷ []
leaf_of records (flaw line) = []

-- a screen without a draft isn't left, nor one of which there were too many records
abbrev pub leaves_of : Sizes → Option (List Kept) → List Leaf
leaves_of geometry None = []
leaves_of geometry (Some kept) = leaf_of (bytes_kept kept) (sketch_of geometry (bytes_kept kept))
