-- After a fault that the host's lines tell, nothing is answered.
use Rattle.std.proofs.Common.{ℕ, List, [], ◌++◌, ◌≡◌, refl, sym, ◌∙◌, ap, subst, true}
use Rattle.std.proofs.lemmas.List.{append-nil}
use Rattle.tn_traces.specs.declared.line.Side.{Side}
use Rattle.cli_traces.specs.Live.{Followed, Follows}
use Rattle.cli_taps.specs.Listening.{Listening, Listens, Answers}
use Rattle.cli_taps.specs.Text.{host_lines}

pub told_alone : (old : Listening) (side : Side) (piece text : List ℕ) (records : Followed) (first told before after : List ℕ)
    → Follows old.records side piece text records → first ≡ [] → told ≡ first ++ text → after ≡ before ++ host_lines told → records.is_over ≡ true
    → (added : List ℕ) × (after ≡ before ++ added) × Listens old side piece added (record { records = records; answers = old.answers })
told_alone old side piece text records first told before after follows none is adds over = (
  host_lines text ++ [],
  adds ∙ ap (λ z. before ++ host_lines z) (is ∙ ap (λ z. z ++ text) none) ∙ ap (λ z. before ++ z) (sym (append-nil (host_lines text))),
  (text, [], follows, subst (λ b. Answers b old.answers side piece [] old.answers) (sym over) (refl, refl), refl),
)
