use Rattle.std.proofs.Common.{◌≡◌, ◌++◌, drop}
use Rattle.std.specs.String.{string_bytes}
use Rattle.std.specs.List.{flat_map}
use Rattle.scr_draft.specs.Text.{field_lines, draft_text}
use Rattle.scr_draft.proofs.text.draft_text.Given as goal

abbrev pub invariant-loop-draft : goal.invariant-loop-draft
invariant-loop-draft l = string_bytes l.text ++ flat_map (field_lines l.screen) (drop l.draft-index l.drafts) ≡ draft_text l.screen l.drafts
