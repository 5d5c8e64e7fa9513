-- A finding with its turn holds no float.
use Rattle.std.proofs.Common.{◌≡◌, ℕ, false, List, refl, arith}
use Rattle.std.specs.Prelude.{codes, None}
use Rattle.serde_json.specs.Data.{number, unsigned}
use Rattle.serde_json.specs.Written.{has_float}
use Rattle.scr_layout.specs.Layout.{Declaration}
use Rattle.scr_check.specs.declared.traced.Traced.{Traced}
use Rattle.cli_findings.specs.Facts.{byte_of}
use Rattle.cli_findings.proofs.Plain.{put_both, spot_plain, plain_finding}
use Rattle.cli_reports.specs.declared.talk_json.Span.{Span}
use Rattle.cli_reports.specs.TalkJson.{record_in, turn_data}

pub turn_plain : (layout : Declaration) (numbers : List ℕ) (span : Span) (traced : Traced) → has_float (turn_data layout numbers span traced) ≡ false
unfolding turn_data
turn_plain layout numbers span traced =
    let spot = spot_plain 2 numbers (record_in span traced) (byte_of traced) _ (plain_finding layout numbers None traced) in
    (put_both 2 (codes "turn") (number (unsigned span.turn)) _ refl (omega arith) spot).none
