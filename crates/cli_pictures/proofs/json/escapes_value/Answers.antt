use Rattle.std.proofs.Common.{map}
use Rattle.serde_json.specs.View.{view}
use Rattle.cli_pictures.specs.Json.{escape_at}
use Rattle.cli_pictures.proofs.JsonLaws.{one_part}
use Rattle.cli_pictures.proofs.json.escapes_value.Goals as goal

pub loop-p-preserved : goal.loop-p-preserved
loop-p-preserved c =
    one_part (escape_at c.args.screen.now.cells) c.loop-p.p (map view c.loop-p.places.items) _ c.loop-p.invariant c.in_ok-push_escape.ensures
