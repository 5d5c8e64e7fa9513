use Rattle.bms_map.proofs.TextsLaws.{texts_are_text}
use Rattle.bms_map.proofs.text.texts_are_text.Goals as goal

pub returns : goal.returns
returns c = texts_are_text
