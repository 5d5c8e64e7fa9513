-- The findings of a turn of a dialogue as lines of JSON.
use Rattle.std.specs.Prelude.{ℕ, ◌+◌, nat_lt, List, codes, Option, Some, None, option_map, if◌then◌else◌}
use Rattle.serde_json.specs.Data.{Data, number, unsigned, string, object, member, no_members, put}
use Rattle.scr_layout.specs.Layout.{Declaration}
use Rattle.scr_check.specs.declared.traced.Traced.{Traced}
use Rattle.cli_findings.specs.Facts.{record_told, byte_of}
use Rattle.cli_findings.specs.Lines.{data_line}
use Rattle.cli_findings.specs.Members.{with_spot, finding_members}
use Rattle.cli_reports.specs.declared.talk_json.Span.{Span}

-- a record of the turn, among those of all turns
abbrev pub record_over : Span → ℕ → Option ℕ
record_over span index = if nat_lt (span.before + index) span.all then Some (span.before + index) else None

abbrev pub told_or : Span → Option ℕ → Option ℕ → Option ℕ
told_or span (Some index) origin = record_over span index
told_or span None origin = origin

-- the record that a finding is about: the one that it tells, which counts from its turn's first, or that of the order from
-- which it comes
abbrev pub record_in : Span → Traced → Option ℕ
record_in span traced = told_or span (record_told traced.finding) (option_map (λ origin. origin.index) traced.origin)

-- a finding as `check` tells it, with its turn; records are counted over all turns, and these are the lines on which they stand
unfoldable pub turn_data : Declaration → List ℕ → Span → Traced → Data
turn_data layout numbers span traced =
    object (put (codes "turn") (number (unsigned span.turn))
    (with_spot numbers (record_in span traced) (byte_of traced) (finding_members layout numbers None traced)))

abbrev pub turn_line : Declaration → List ℕ → Span → Traced → List ℕ
turn_line layout numbers span traced = data_line (turn_data layout numbers span traced)

-- nothing stands against so many turns
abbrev pub yes_data : ℕ → Data
yes_data turns =
    object (member (codes "findings") (number (unsigned 0)) (member (codes "turns") (number (unsigned turns))
    (member (codes "verdict") (string (codes "yes")) no_members)))

-- of so many turns the first against which something stands, and how much does
abbrev pub no_data : ℕ → ℕ → ℕ → Data
no_data turns turn findings =
    object (member (codes "findings") (number (unsigned findings)) (member (codes "turn") (number (unsigned turn))
    (member (codes "turns") (number (unsigned turns)) (member (codes "verdict") (string (codes "no")) no_members))))
