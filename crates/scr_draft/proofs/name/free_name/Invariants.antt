use Rattle.std.proofs.Common.{◌≡◌, ℕ, ◌<◌, true}
use Rattle.scr_draft.specs.Name.{form, is_taken}
use Rattle.scr_draft.specs.Drafted.{names_in}
use Rattle.scr_draft.proofs.name.free_name.Given as goal

abbrev pub invariant-loop-tries : goal.invariant-loop-tries
invariant-loop-tries l = (k : ℕ) → k < l.tries → is_taken (names_in l.drafts) (form l.cols l.place l.label k) ≡ true
