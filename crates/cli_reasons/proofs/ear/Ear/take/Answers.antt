use Rattle.std.proofs.Common.{ap, sym, ◌∙◌}
use Rattle.cli_reasons.specs.Hearing.{is_whole}
use Rattle.cli_reasons.proofs.HearLaws.{lines_taken, whole_taken}
use Rattle.cli_reasons.proofs.ear.Ear.take.Goals as goal

pub returns-then-is_whole-clause-heard : goal.returns-then-is_whole-clause-heard
returns-then-is_whole-clause-heard c past come holds =
    whole_taken past c.args.bytes.now c.args.self.now c.keep_text.new.self c.keep.new.self c.in_ok-keep_text.ensures.frame c.in_ok-keep.ensures.frame
    (ap (λ ear. is_whole ear.walk.lines) (sym c.in_ok-keep_text.ensures.frame) ∙ sym c.if-is_whole.ensures) c.requires (c.in_ok-keep_text.ensures.text past come) c.in_ok-keep.ensures.kept holds

pub returns-clause-heard : goal.returns-clause-heard
returns-clause-heard c past come holds =
    lines_taken past c.args.bytes.now c.args.self.now c.keep_text.new.self c.hear_lines.new.self c.in_ok-keep_text.ensures.frame
    (ap (λ ear. is_whole ear.walk.lines) (sym c.in_ok-keep_text.ensures.frame) ∙ sym c.if-is_whole.ensures) c.requires (c.in_ok-keep_text.ensures.text past come) c.in_ok-hear_lines.ensures.beside
    c.in_ok-hear_lines.ensures.heard holds
