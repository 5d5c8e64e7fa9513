use Rattle.std.proofs.Common.{◌≡◌, false, not, ◌&&◌, refl, sym, ap, ◌∙◌}
use Rattle.std.proofs.lemmas.Result.{on_ok_weaker}
use Rattle.cli_scripts.specs.Acts.{is_reset}
use Rattle.cli_scripts.proofs.ActLaws.{pressed_now}
use Rattle.cli_scripts.proofs.keys.press.Goals.{else-waits-via-then-waits+else-not-is_reset, else-waits-via-else-waits}
use Rattle.cli_scripts.proofs.keys.press.Goals as goal

pub returns-clause-deeds : goal.returns-clause-deeds
returns-clause-deeds c =
    let test : c.waits.result && not (is_reset c.args.keys.now) ≡ false = elim c.else-waits.branch [
      | else-waits-via-then-waits+else-not-is_reset w ↦
          ap (λ b. b && not (is_reset c.args.keys.now)) w.if-waits.true ∙ ap not (sym w.is_reset.ensures) ∙ ap not w.if-not-is_reset.false
      | else-waits-via-else-waits w ↦ ap (λ b. b && not (is_reset c.args.keys.now)) w.if-waits.false
    ] in
    on_ok_weaker c.press_now.result
    (pressed_now c.args.desk.now.talk c.args.keys.now c.args.desk.now.host c.waits.result (is_reset c.args.keys.now) c.args.desk.now.deeds c.press_now.new.desk.deeds
    (sym c.is_connected.ensures ∙ c.if-not-is_connected.false) c.waits.ensures refl test)
    c.press_now.ensures.deeds
