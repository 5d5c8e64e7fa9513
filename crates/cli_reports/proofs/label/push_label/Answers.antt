use Rattle.std.proofs.Common.{◌≡◌, ◌∙◌, ◌<◌, ◌∷◌, [], ap, arith, string_bytes}
use Rattle.std.specs.Prelude.{encode_utf8}
use Rattle.cli_pictures.specs.Seen.{shown_at}
use Rattle.cli_reports.proofs.Steps.{shown_on}
use Rattle.cli_reports.proofs.label.push_label.Goals as goal

pub loop-at-preserved : goal.loop-at-preserved
loop-at-preserved c =
    let small : c.from.result < 128 = omega (arith, c.from.ensures, c.shown_at.ensures.ascii) in
    let one : encode_utf8 c.from.result ≡ shown_at c.args.screen.now.cells c.loop-at.at ∷ [] =
    c.push.ensures.ascii small ∙ ap (λ x. x ∷ []) (c.from.ensures ∙ c.shown_at.ensures.value) in
    shown_on (shown_at c.args.screen.now.cells) c.loop-at.at c.args.label.stop (string_bytes c.loop-at.out) (string_bytes c.push.new.self) (encode_utf8 c.from.result) _
    c.loop-at-test.true c.in_ok-push.ensures.bytes one c.loop-at.invariant
