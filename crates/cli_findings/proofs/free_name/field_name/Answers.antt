use Rattle.std.proofs.Common.{◌∙◌, ap, sym, arith}
use Rattle.cli_findings.specs.FieldName.{is_taken}
use Rattle.cli_findings.specs.Help.{names_in}
use Rattle.cli_findings.proofs.FieldNames.{first_free, none_free}
use Rattle.cli_findings.proofs.free_name.field_name.Goals as goal

pub returns-then-not-is_taken : goal.returns-then-not-is_taken
returns-then-not-is_taken c =
    let free = ap (is_taken (names_in c.args.entries.now)) (sym (c.as_str.ensures.value ∙ c.in_ok-name.ensures)) ∙ sym c.is_taken.ensures ∙ c.if-not-is_taken.true in
    c.in_ok-name.ensures ∙ first_free c.args.entries.now c.args.place c.loop-taken.taken c.loop-taken-test.true c.loop-taken.invariant free

pub returns : goal.returns
returns c = c.in_ok-name-2.ensures ∙ none_free c.args.entries.now c.args.place c.loop-taken.taken (omega (arith, c.loop-taken-test.false)) c.loop-taken.invariant
