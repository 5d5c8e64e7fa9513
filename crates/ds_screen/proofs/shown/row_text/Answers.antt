use Rattle.std.proofs.lemmas.Str.{IsUtf8-from_ascii}
use Rattle.std.proofs.lemmas.Str.Ascii.{IsAscii-from_all}
use Rattle.ds_screen.proofs.shown.row_text.Goals as goal

pub unwrap-requires : goal.unwrap-requires
unwrap-requires g c =
    c.from_utf8.ensures.succeeds (IsUtf8-from_ascii c.in_ok-bytes.bytes.items (IsAscii-from_all c.in_ok-bytes.bytes.items c.in_ok-bytes.ensures.ascii))
