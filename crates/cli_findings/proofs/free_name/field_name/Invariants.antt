use Rattle.std.proofs.Common.{◌≡◌, ℕ, ◌<◌, false}
use Rattle.std.specs.Prelude.{not}
use Rattle.cli_findings.specs.FieldName.{field_form, is_taken}
use Rattle.cli_findings.specs.Help.{names_in}
use Rattle.cli_findings.proofs.free_name.field_name.Given as goal

abbrev pub invariant-loop-taken : goal.invariant-loop-taken
invariant-loop-taken l = (d : ℕ) → d < l.taken → not (is_taken (names_in l.entries) (field_form l.place d)) ≡ false
