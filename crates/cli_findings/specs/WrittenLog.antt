-- For the code's own proofs: only functions within the crate cite this file, so no public contract rests on it.
-- The text of a log in parts, as it is written.
use Rattle.std.specs.Prelude.{ℕ, List, ◌++◌, codes}
use Rattle.serde_json.specs.Data.{Data}
use Rattle.serde_json.specs.Written.{compact_text}
use Rattle.cli_findings.specs.Sarif.{tool_data}

-- what stands before the results
abbrev pub log_front : List ℕ
log_front = codes "{\"$schema\":\"https://json.schemastore.org/sarif-2.1.0.json\",\"runs\":[{\"results\":["

-- the program as the run's next member
unfoldable pub tool_text : List Data → List ℕ
tool_text rules = codes ",\"tool\":" ++ compact_text (tool_data rules)

-- what stands after the results
abbrev pub log_rest : List Data → List ℕ
log_rest rules = tool_text rules ++ codes "}],\"version\":\"2.1.0\"}"
