use Rattle.std.specs.String.{string_bytes}
use Rattle.serde_json.specs.View.{view}
use Rattle.cli_pictures.proofs.JsonLaws.{json_written}
use Rattle.cli_pictures.proofs.json.json_text.Goals as goal

pub returns : goal.returns
returns c = json_written string_bytes c.args.screen.now (view c.in_ok-value.value) c.to_string.result c.in_ok-value.ensures c.to_string.ensures.text
