use Rattle.std.proofs.Common.{ℕ, List, ◌++◌, ◌≡◌, sym, ◌∙◌, ap, subst}
use Rattle.cli_taps.specs.Listening.{Listening, Listens}
use Rattle.cli_taps.specs.Text.{host_lines}
use Rattle.cli_taps.proofs.Told.{told_alone}
use Rattle.cli_taps.proofs.listener.Listener.take.Goals as goal

pub returns-then-is_over : goal.returns-then-is_over
returns-then-is_over c =
    let before : Listening = record { records = c.self.inside.records; answers = c.self.inside.answers } in
    let found = told_alone before c.args.side c.args.piece.now _ c.take.new.self _ _ _ _ c.in_ok-take.ensures.adds.2 c.new-told.ensures.bytes c.in_ok-take.ensures.adds.1
    (c.in_ok-push_host_lines.ensures ∙ ap (λ z. c.args.out.now.items ++ host_lines z) c.as_bytes.ensures.value) (sym c.is_over.ensures ∙ c.if-is_over.true) in
    subst (λ (old : Listening). (added : List ℕ) × (c.push_host_lines.new.out.items ≡ c.args.out.now.items ++ added)
    × Listens old c.args.side c.args.piece.now added (record { records = c.take.new.self; answers = c.self.inside.answers })) c.self.view_is found
