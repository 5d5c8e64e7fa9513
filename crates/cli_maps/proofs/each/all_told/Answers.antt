use Rattle.std.proofs.Common.{◌++◌, List, ℕ, ap, ◌∙◌}
use Rattle.std.specs.String.{string_bytes}
use Rattle.cli_commands.specs.Held.{answer_seen}
use Rattle.cli_maps.specs.Told.{all_told, told_by}
use Rattle.cli_maps.proofs.Folds.{told_next}
use Rattle.cli_maps.proofs.each.all_told.Goals as goal

pub loop-map-preserved : goal.loop-map-preserved
loop-map-preserved c =
    told_next (told_by c.args.form c.args.control) c.args.maps.now c.loop-map.map-index c.map-item.result (string_bytes c.loop-map.text) (string_bytes c.push_str.new.self)
    c.loop-map.status c.worse-status.result (answer_seen c.in_ok-answer.answer) (all_told (told_by c.args.form c.args.control) c.args.maps.now)
    c.loop-map-test.true c.map-item.is c.in_ok-answer.ensures
    (c.in_ok-push_str.ensures.bytes ∙ ap (λ (t : List ℕ). string_bytes c.loop-map.text ++ t) c.as_str.ensures.value)
    c.worse-status.ensures c.loop-map.invariant
