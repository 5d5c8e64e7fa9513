-- What comes of a host's session, as the program holds it.
use Rattle.std.specs.Prelude.{ℕ, List, map, Option, Some, None}
use Rattle.std.specs.Global.{Vec}
use Rattle.tn_session.specs.declared.outcome.HostOutcome.{HostOutcome}
use Rattle.tn_session.specs.HostLog.{Outcome}

abbrev pub field_view : ℕ × Vec ℕ → ℕ × List ℕ
field_view field = (field.0, field.1.items)

abbrev pub outcome_view : HostOutcome → Outcome
outcome_view outcome = record { agreed = outcome.agreed; aid = outcome.aid; fields = map field_view outcome.fields.items }

abbrev pub some_outcome : Option HostOutcome → Option Outcome
some_outcome None = None
some_outcome (Some outcome) = Some (outcome_view outcome)
