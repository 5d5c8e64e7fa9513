-- The tables of keywords, as the program holds them.
use Rattle.std.specs.Prelude.{ℕ, List, map}
use Rattle.bms_map.specs.declared.keyword.Keyword.{Keyword}
use Rattle.bms_map.specs.declared.keyword.Named.{Named}

abbrev pub entries_of : List Named → List (List ℕ × Keyword)
entries_of table = map (λ named. (named.name.now, named.keyword)) table
