use Rattle.std.proofs.Common.{◌≡◌, ◌≤◌, ◌+◌, length}
use Rattle.std.specs.List.{filter}
use Rattle.scr_draft.specs.Drafted.{is_drafted, drafted_fields}
use Rattle.scr_draft.proofs.entries.has_too_many.Given as goal

abbrev pub invariant-fields : goal.invariant-fields
invariant-fields l =
    record {
      within : l.left ≤ 1000;
      count : 1000 + length (filter is_drafted l.field-iterator) ≡ l.left + length (drafted_fields l.screen.cells);
    }
