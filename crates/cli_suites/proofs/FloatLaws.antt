-- The objects of a report hold no float.
use Rattle.std.proofs.Common.{◌≡◌, ℕ, false, List, [], ◌∷◌, map, refl}
use Rattle.serde_json.specs.Data.{string}
use Rattle.serde_json.specs.View.{items_of}
use Rattle.serde_json.specs.Written.{has_float, items_have_float}
use Rattle.cli_suites.specs.Json.{case_data}
use Rattle.cli_suites.specs.Settled.{Settled}

pub texts_plain : (texts : List (List ℕ)) → items_have_float (items_of (map (λ text. string text) texts)) ≡ false
texts_plain [] = refl
texts_plain (text ∷ texts) = texts_plain texts

pub case_plain : (name : List ℕ) (settled : Settled) → has_float (case_data name settled) ≡ false
unfolding case_data
case_plain name settled = rw (texts_plain settled.came, texts_plain settled.lines) refl
