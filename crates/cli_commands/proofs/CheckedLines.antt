-- Records that are checked as their lines come.
use Rattle.std.proofs.Common.{◌≡◌, ℕ, List, Ok, Err, refl, ◌∙◌, ap}
use Rattle.std.specs.Prelude.{Result}
use Rattle.ds_codec.specs.Reading.{◌>>=◌}
use Rattle.scr_layout.specs.Layout.{Declaration}
use Rattle.scr_check.specs.Findings.{answer_of}
use Rattle.cli_commands.specs.Check.{findings_beside, findings_told}
use Rattle.cli_commands.specs.declared.fault.Fault.{Fault}
use Rattle.cli_commands.specs.declared.input.sizes.SizeLine.TheVariants.{Refused}
use Rattle.cli_commands.specs.Lines.{lines_in, within_limit}
use Rattle.cli_commands.specs.Records.{take_record, no_records, Records, records_in}
use Rattle.cli_commands.specs.Taking.{taken, with_kept, beside}
use Rattle.cli_commands.proofs.Taking.{taken_beside}

in_limit : {K : Type 0} (kept : K) (input : List ℕ) (short : Result (List ℕ) Fault)
    → (short >>= λ text. taken (beside take_record) 1 (kept, no_records Refused) (lines_in text)) ≡ with_kept kept (short >>= λ text. taken take_record 1 (no_records Refused) (lines_in text))
in_limit kept input (Ok text) = taken_beside take_record 1 kept (no_records Refused) (lines_in text)
in_limit kept input (Err fault) = refl

told_beside : (layout : Declaration) (told : Result Records Fault)
    → (with_kept layout told >>= λ both. Ok (answer_of both.0 both.1.records)) ≡ (told >>= λ t. Ok (answer_of layout t.records))
told_beside layout (Ok t) = refl
told_beside layout (Err fault) = refl

pub beside_told : (layout : Declaration) (input : List ℕ) → findings_beside layout input ≡ findings_told layout input
beside_told layout input =
    ap (λ r. r >>= λ both. Ok (answer_of both.0 both.1.records)) (in_limit layout input (within_limit input)) ∙ told_beside layout (records_in Refused input)
