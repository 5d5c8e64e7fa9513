-- Kept records as the program holds them: the turns that a judge knows, and those that are handed in.
use Rattle.std.specs.Prelude.{List, Option, map, option_map}
use Rattle.std.specs.Global.{Vec}
use Rattle.std.specs.Borrow.{Bor}
use Rattle.tn_session.specs.declared.kept.KeptRecord.{KeptRecord}
use Rattle.tn_session.specs.Kept.{Kept}
use Rattle.tn_session.specs.KeptView.{kept_view}

abbrev pub known_view : Vec KeptRecord → List Kept
known_view kept = map kept_view kept.items

-- none where the records aren't kept
abbrev pub turns_seen : Option (Bor (List KeptRecord)) → Option (List Kept)
turns_seen turns = option_map (λ kept. map kept_view kept.now) turns
