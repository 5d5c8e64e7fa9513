-- The screen that records open for an operator, whatever its layout.
use Rattle.std.specs.Prelude.{◌≡◌, ℕ, List, [], ◌∷◌, map, Result, Ok, Err}
use Rattle.std.specs.Global.{Vec}
use Rattle.ds_codec.specs.Geometry.{Sizes}
use Rattle.ds_codec.specs.Reading.{◌>>=◌}
use Rattle.ds_screen.specs.Picture.{Picture}
use Rattle.ds_screen.specs.Records.{new_picture}
use Rattle.scr_check.specs.declared.finding.Finding.{Finding}
use Rattle.scr_check.specs.declared.finding.Finding.TheVariants.{NoRecord}
use Rattle.scr_check.specs.Opening.{taken_from, ready}
use Rattle.scr_draft.specs.declared.opening.Opened.{Opened}
use Rattle.scr_draft.specs.declared.opening.Opened.TheVariants.{Leads, Stands}

-- the picture that all records leave on a new terminal, or the one finding that comes first, as the checker has it of a
-- layout for the size that they leave
abbrev pub opened : Sizes → List (List ℕ) → Result Picture Finding
opened geometry [] = Err NoRecord
opened geometry (bytes ∷ others) = taken_from 0 (new_picture geometry) (bytes ∷ others) >>= λ v. ready v.size v

-- ---- as the program holds it

abbrev pub held : List (Vec ℕ) → List (List ℕ)
held records = map (λ bytes. bytes.items) records

-- the picture that is due, or the finding
abbrev pub LeadsTo : Picture → Result Picture Finding → Result (Unit {0}) Finding → Type 0
LeadsTo v due (Ok done) = due ≡ Ok v
LeadsTo v due (Err finding) = due ≡ Err finding

abbrev pub IsOpened : Result Picture Finding → Opened → Type 0
IsOpened due (Leads screen) = due ≡ Ok screen
IsOpened due (Stands finding) = due ≡ Err finding
