use Rattle.std.proofs.Common.{◌≡◌}
use Rattle.std.specs.List.{filter}
use Rattle.scr_draft.specs.Drafted.{is_drafted, drafts_from, drafts_of}
use Rattle.scr_draft.proofs.entries.drafts_of.Given as goal

abbrev pub invariant-fields : goal.invariant-fields
invariant-fields l = drafts_from l.screen l.drafts.items (filter is_drafted l.field-iterator) ≡ drafts_of l.screen
