-- One more record behind those that a checker took.
use Rattle.std.proofs.Common.{◌≡◌, ℕ, ◌+◌, List, [], ◌∷◌, ◌++◌, length, Some, None, Result, Ok, Err, ◌∙◌, ap, arith}
use Rattle.ds_codec.specs.Reading.{◌>>=◌, read_of}
use Rattle.ds_screen.specs.Picture.{Picture}
use Rattle.ds_screen.specs.Records.{new_picture}
use Rattle.scr_layout.specs.Layout.{Declaration}
use Rattle.scr_check.specs.declared.finding.Finding.{Finding}
use Rattle.scr_check.specs.Opening.{taken, taken_from}
use Rattle.scr_check.specs.Checker.{Reach, TakesFrom, LeadsUnless}

after_ok : (r : Result Picture Finding) (one other : Picture → Result Picture Finding) (w : Picture) (due : Result Picture Finding)
    → ((next : Picture) → one next ≡ Ok w → other next ≡ due) → (r >>= one) ≡ Ok w → (r >>= other) ≡ due
after_ok (Ok next) one other w due goes is = goes next is
after_ok (Err finding) one other w due goes is = absurd cc

after_err : (r : Result Picture Finding) (one other : Picture → Result Picture Finding) (finding : Finding)
    → ((next : Picture) → one next ≡ Err finding → other next ≡ Err finding) → (r >>= one) ≡ Err finding → (r >>= other) ≡ Err finding
after_err (Ok next) one other finding goes is = goes next is
after_err (Err first) one other finding goes is = is

same_ok : (v w : Picture) → ◌≡◌ {A = Result Picture Finding} (Ok v) (Ok w) → v ≡ w
same_ok v w is = cc

-- records lead on from where those before them led
led_on : (index : ℕ) (v : Picture) (records more : List (List ℕ)) (w : Picture) → taken_from index v records ≡ Ok w
    → taken_from index v (records ++ more) ≡ taken_from (index + length records) w more
led_on index v [] more w is =
    ap (λ p. taken_from index p more) (same_ok v w is) ∙ ap (λ k. taken_from k w more) (let e : index ≡ index + 0 = omega arith in e)
led_on index v (bytes ∷ others) more w is =
    after_ok (taken index v (read_of v.geometry.mode bytes)) (λ next. taken_from (index + 1) next others) (λ next. taken_from (index + 1) next (others ++ more)) w
    (taken_from (index + length (bytes ∷ others)) w more)
    (λ next led. led_on (index + 1) next others more w led
    ∙ ap (λ k. taken_from k w more) (let e : (index + 1) + length others ≡ index + length (bytes ∷ others) = omega arith in e)) is

-- what stands against records stands against them and more
stands_on : (index : ℕ) (v : Picture) (records more : List (List ℕ)) (finding : Finding) → taken_from index v records ≡ Err finding
    → taken_from index v (records ++ more) ≡ Err finding
stands_on index v [] more finding is = absurd cc
stands_on index v (bytes ∷ others) more finding is =
    after_err (taken index v (read_of v.geometry.mode bytes)) (λ next. taken_from (index + 1) next others) (λ next. taken_from (index + 1) next (others ++ more)) finding
    (λ next stands. stands_on (index + 1) next others more finding stands) is

module _ (layout : Declaration) (records : List (List ℕ)) (before after : Reach) (index : ℕ) (bytes : List ℕ) where
  pub still_stands : (finding : Finding) → LeadsUnless layout records before (Some finding) → LeadsUnless layout (records ++ bytes ∷ []) after (Some finding)
  still_stands finding stands = stands_on 0 (new_picture layout.geometry) records (bytes ∷ []) finding stands

  -- the record of this number, after them
  one_after : (w : Picture) (r : Result Picture Finding) → index ≡ length records → taken_from 0 (new_picture layout.geometry) records ≡ Ok w
      → taken index w (read_of w.geometry.mode bytes) ≡ r → taken_from 0 (new_picture layout.geometry) (records ++ bytes ∷ []) ≡ (r >>= λ next. Ok next)
  one_after w r counts led takes =
      led_on 0 (new_picture layout.geometry) records (bytes ∷ []) w led
      ∙ ap (λ k. taken_from k w (bytes ∷ [])) (let e : 0 + length records ≡ index = omega (arith, counts) in e) ∙ ap (λ r. r >>= λ next. Ok next) takes

  pub leads_on : index ≡ length records → LeadsUnless layout records before None → TakesFrom index before bytes (Ok tt) after
      → LeadsUnless layout (records ++ bytes ∷ []) after None
  leads_on counts led takes = let next = takes led.0 led.2 in (next.0, one_after led.0 (Ok next.0) counts led.1 next.1, next.2)

  pub stands_next : (finding : Finding) → index ≡ length records → LeadsUnless layout records before None → TakesFrom index before bytes (Err finding) after
      → LeadsUnless layout (records ++ bytes ∷ []) after (Some finding)
  stands_next finding counts led takes = one_after led.0 (Err finding) counts led.1 (takes led.0 led.2)
