use Rattle.std.proofs.Common.{◌≡◌, drop}
use Rattle.scr_draft.specs.Name.{is_taken}
use Rattle.scr_draft.specs.Drafted.{names_in}
use Rattle.scr_draft.proofs.name.is_taken.Given as goal

abbrev pub invariant-loop-draft : goal.invariant-loop-draft
invariant-loop-draft l = is_taken (names_in (drop l.draft-index l.drafts)) l.name ≡ is_taken (names_in l.drafts) l.name
