-- The parts of a log make its text.
use Rattle.std.proofs.Common.{◌≡◌, ℕ, false, List, ◌++◌, sym, ◌∙◌, ap}
use Rattle.std.specs.Prelude.{codes}
use Rattle.std.proofs.lemmas.List.{append_assoc}
use Rattle.json.specs.Print.{escape_byte}
use Rattle.serde_json.specs.Data.{Data, Items, array}
use Rattle.serde_json.specs.Written.{compact_text, items_text}
use Rattle.cli_findings.specs.WrittenLog.{log_front, log_rest, tool_text}
use Rattle.cli_findings.specs.Sarif.{log_data, tool_data}

-- the brackets that close the run, the runs and the log
closes : (items tool : List ℕ) → ((items ++ (codes ",\"tool\":" ++ (tool ++ codes "}"))) ++ codes "]") ++ codes ",\"version\":\"2.1.0\"}"
    ≡ items ++ (codes ",\"tool\":" ++ (tool ++ codes "}],\"version\":\"2.1.0\"}"))
closes items tool =
    append_assoc (items ++ (codes ",\"tool\":" ++ (tool ++ codes "}"))) (codes "]") (codes ",\"version\":\"2.1.0\"}")
    ∙ append_assoc items (codes ",\"tool\":" ++ (tool ++ codes "}")) (codes "],\"version\":\"2.1.0\"}")
    ∙ ap (λ l. items ++ (codes ",\"tool\":" ++ l)) (append_assoc tool (codes "}") (codes "],\"version\":\"2.1.0\"}"))

pub in_parts : (rules : List Data) (items : Items) → (log_front ++ items_text false items) ++ log_rest rules ≡ compact_text (log_data rules (array items))
unfolding log_data escape_byte tool_text
in_parts rules items =
    append_assoc log_front (items_text false items) (log_rest rules)
    ∙ sym (ap (λ l. log_front ++ l) (closes (items_text false items) (compact_text (tool_data rules))))
