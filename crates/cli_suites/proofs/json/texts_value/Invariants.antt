use Rattle.std.proofs.Common.{◌≡◌, ◌++◌, drop, map, string_bytes}
use Rattle.serde_json.specs.Data.{string}
use Rattle.serde_json.specs.View.{view}
use Rattle.cli_suites.proofs.json.texts_value.Given as goal

abbrev pub invariant-loop-text : goal.invariant-loop-text
invariant-loop-text l =
    map view l.values.items ++ map (λ text. string text) (map string_bytes (drop l.text-index l.texts)) ≡ map (λ text. string text) (map string_bytes l.texts)
