use Rattle.std.proofs.Common.{◌≡◌, ◌++◌, drop}
use Rattle.std.specs.String.{string_bytes}
use Rattle.bms_source.specs.Printed.{printed_codes}
use Rattle.bms_source.proofs.refusal.push_codes.Given as goal

abbrev pub invariant-loop-code : goal.invariant-loop-code
invariant-loop-code l = string_bytes l.out ++ printed_codes (drop l.code-index l.codes) ≡ string_bytes l.fn.out ++ printed_codes l.fn.codes
