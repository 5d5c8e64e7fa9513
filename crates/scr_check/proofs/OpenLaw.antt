-- What the opening is, by where the records led and whether the screen is ready.
use Rattle.std.proofs.Common.{◌≡◌, ℕ, List, [], ◌∷◌, length, None, Ok, Err, refl, ◌∙◌, ap}
use Rattle.ds_codec.specs.Reading.{◌>>=◌}
use Rattle.ds_screen.specs.Picture.{Picture}
use Rattle.ds_screen.specs.Outline.{Outlined, IsOutlineOf}
use Rattle.ds_screen.specs.Records.{new_picture}
use Rattle.scr_layout.specs.Layout.{Declaration}
use Rattle.scr_check.specs.declared.finding.Finding.{Finding}
use Rattle.scr_check.specs.Opening.{taken_from, ready, opening_of}
use Rattle.scr_check.specs.Checker.{LeadsTo, Reach, CatchesUp, LeadsUnless}

opened_as : (layout : Declaration) (records : List (List ℕ)) → (length records ≡ 0 → ⊥)
    → opening_of layout records ≡ (taken_from 0 (new_picture layout.geometry) records >>= ready layout.size)
opened_as layout [] some = absurd (some refl)
opened_as layout (bytes ∷ others) some = refl

module _ (layout : Declaration) (records : List (List ℕ)) (outline : Outlined) where
  pub opens : (length records ≡ 0 → ⊥) → LeadsTo layout records outline None → ((v : Picture) → IsOutlineOf outline v → ready layout.size v ≡ Ok v)
      → (v : Picture) × (opening_of layout records ≡ Ok v) × IsOutlineOf outline v
  opens some led is = (led.0, opened_as layout records some ∙ ap (λ r. r >>= ready layout.size) led.1 ∙ is led.0 led.2, led.2)

  pub opens_not : (finding : Finding) → (length records ≡ 0 → ⊥) → LeadsTo layout records outline None
      → ((v : Picture) → IsOutlineOf outline v → ready layout.size v ≡ Err finding) → opening_of layout records ≡ Err finding
  opens_not finding some led is = opened_as layout records some ∙ ap (λ r. r >>= ready layout.size) led.1 ∙ is led.0 led.2

-- what was reached is outlined once no record waits
pub caught : (layout : Declaration) (records : List (List ℕ)) (reach : Reach) (outline : Outlined) → LeadsUnless layout records reach None → CatchesUp reach outline
    → LeadsTo layout records outline None
caught layout records reach outline led catches = (led.0, led.1, catches led.0 led.2)
