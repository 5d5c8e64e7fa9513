use Rattle.std.proofs.Common.{true, not, ◌&&◌, refl, sym, ap, ◌∙◌}
use Rattle.cli_scripts.specs.Acts.{is_reset}
use Rattle.cli_scripts.proofs.KeyLaws.{keys_end}
use Rattle.cli_scripts.proofs.keys.press_now.Goals as goal

pub returns-then-not-is_reset-clause-says : goal.returns-then-not-is_reset-clause-says
returns-then-not-is_reset-clause-says c =
    keys_end c.args.desk.now.talk c.args.keys.now c.screen.result.now c.deref.result.now c.press_runs.new.self.talk c.in_ok-press_runs.field-0 c.waits.result true _ _ _
    c.screen.ensures (c.deref.ensures.value ∙ c.in_ok-runs.ensures) c.in_ok-press_runs.ensures.inhibited c.if-branch.false c.in_ok-press_runs.ensures.talk c.waits.ensures
    (ap (λ b. b && not (is_reset c.args.keys.now)) c.if-waits.true ∙ ap not (sym c.is_reset.ensures) ∙ ap not c.if-not-is_reset.true) (refl, refl)
