-- The set of paths, where one more comes to it.
use Rattle.std.proofs.Common.{◌≡◌, ◌∙◌, ℕ, suc, ◌+◌, ◌<◌, Bool, true, false, ◌||◌, cond, bytes_eq, String, List, [], ◌∷◌, length, get_or, drop, map, refl, sym, ap, arith}
use Rattle.std.proofs.Math.Seq.{drop-cons}
use Rattle.std.specs.BTreeSet.{BTreeSet, contains_text, Updates}
use Rattle.std.specs.String.{string_cmp, string_bytes}
use Rattle.std.proofs.lemmas.Map.Text.{btree_set_updates_text}
use Rattle.cli_suites.specs.Paths.{has_path}

in_either : (b c r : Bool) → (cond b true c || r) ≡ (c || (b || r))
in_either true true r = refl
in_either true false r = refl
in_either false true r = refl
in_either false false r = refl

-- what is in the set or among the paths that are left
pub set_push : {Y : Type 0} (names now : BTreeSet (String Y)) (key : String Y) (rest : List (List ℕ)) → Updates string_cmp names now key true
    → (path : List ℕ) → (contains_text now path || has_path rest path) ≡ (contains_text names path || has_path (string_bytes key ∷ rest) path)
set_push names now key rest updates path =
    ap (λ b. b || has_path rest path) (btree_set_updates_text (string_bytes key) names now true updates path)
    ∙ in_either (bytes_eq (string_bytes key) path) (contains_text names path) (has_path rest path)

-- the next of the paths
pub names_next : {X Y : Type 0} (paths : List (String X)) (index : ℕ) (path : String X) (names now : BTreeSet (String Y)) (key : String Y) (whole : List (List ℕ))
    → index < length paths → path ≡ get_or paths index path → string_bytes key ≡ string_bytes path → Updates string_cmp names now key true
    → ((other : List ℕ) → (contains_text names other || has_path (map string_bytes (drop index paths)) other) ≡ has_path whole other)
    → (other : List ℕ) → (contains_text now other || has_path (map string_bytes (drop (index + 1) paths)) other) ≡ has_path whole other
names_next paths index path names now key whole inside here same updates before other =
    let next : suc index ≡ index + 1 = omega arith in
    let split : drop index paths ≡ path ∷ drop (index + 1) paths =
    drop-cons paths index path inside ∙ ap (λ p. p ∷ drop (suc index) paths) (sym here) ∙ ap (λ k. path ∷ drop k paths) next in
    set_push names now key (map string_bytes (drop (index + 1) paths)) updates other
    ∙ ap (λ bytes. contains_text names other || has_path (bytes ∷ map string_bytes (drop (index + 1) paths)) other) same
    ∙ ap (λ list. contains_text names other || has_path (map string_bytes list) other) (sym split)
    ∙ before other
