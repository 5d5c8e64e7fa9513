-- Kept records as the program holds them.
use Rattle.tn_session.specs.declared.kept.KeptRecord.{KeptRecord}
use Rattle.tn_session.specs.Kept.{Kept}

abbrev pub kept_view : KeptRecord → Kept
kept_view kept = record { begins_turn = kept.begins_turn; bytes = kept.bytes.items }
