-- The records that lead to the turn at which a dialogue stops, and what is found of it.
use Rattle.std.specs.Prelude.{ℕ, ◌+◌, List, [], ◌∷◌, ◌++◌, length, map, take}
use Rattle.scr_layout.specs.Layout.{Declaration}
use Rattle.scr_check.specs.declared.finding.Finding.{Finding}
use Rattle.scr_check.specs.declared.traced.Traced.{Traced}
use Rattle.scr_check.specs.Traced.{traced_of}
use Rattle.cli_reports.specs.declared.talk_json.Span.{Span}

-- the records of turns, one turn after the other
abbrev pub all_records : List (List (List ℕ)) → List (List ℕ)
all_records [] = []
all_records (records ∷ turns) = records ++ all_records turns

-- where the records of a turn stand, with those of the turns before
abbrev pub span_of : List (List (List ℕ)) → ℕ → Span
span_of turns turn =
    record { turn = turn; before = length (all_records (take turn turns)); all = length (all_records (take (turn + 1) turns)) }

-- the findings come from orders of all records up to their turn
abbrev pub traced_in : Declaration → List (List (List ℕ)) → ℕ → List Finding → List Traced
traced_in layout turns turn findings = map (traced_of layout (all_records (take (turn + 1) turns))) findings
