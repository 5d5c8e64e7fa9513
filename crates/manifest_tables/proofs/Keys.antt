-- The keys of a map of `toml`, beside the members that it stands for.
use Rattle.std.proofs.Common.{◌≡◌, ◌&&◌, ℕ, List, [], ◌∷◌, String, Global, string_bytes, refl, ap}
use Rattle.std.specs.List.{list_all}
use Rattle.std.specs.Map.{keys_of}
use Rattle.toml.specs.View.{members_view}
use Rattle.toml.specs.declared.value.Value.{Value}
use Rattle.manifest_tables.specs.Values.{is_key, has_only}

pub has_only-members_view : {K : Type 0} (text : K → List ℕ) (keys : List K) (es : List (String Global × Value))
    → list_all (λ k. is_key text keys (string_bytes k)) (keys_of es) ≡ has_only text keys (members_view es)
has_only-members_view text keys [] = refl
has_only-members_view text keys (e ∷ es) = ap (λ b. is_key text keys (string_bytes e.0) && b) (has_only-members_view text keys es)
