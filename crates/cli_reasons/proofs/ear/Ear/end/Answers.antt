use Rattle.std.proofs.Common.{refl, sym, ap, ◌∙◌}
use Rattle.cli_reasons.specs.Walked.{hears, walked_of}
use Rattle.cli_reasons.proofs.HearLaws.{empty_of, end_none, end_one, some_of}
use Rattle.cli_reasons.proofs.ear.Ear.end.Goals as goal

pub returns-then-is_empty-clause-ended : goal.returns-then-is_empty-clause-ended
returns-then-is_empty-clause-ended c past holds =
    end_none past c.args.self.now (empty_of c.as_slice.result.now c.args.self.now.kept.items c.as_slice.ensures.value c.if-is_empty.ensures) holds

pub returns-clause-ended : goal.returns-clause-ended
returns-clause-ended c past holds =
    end_one past c.args.self.now (record (c.args.self.now) { walk = c.hear.new.self; kept = c.replace-line.new.dest })
    (sym c.if-is_whole.ensures)
    (some_of c.as_slice.result.now c.args.self.now.kept.items c.as_slice.ensures.value c.if-is_empty.ensures)
    (c.in_ok-hear.ensures.heard
    ∙ ap (hears (walked_of c.args.self.now.walk)) (c.as_slice-2.ensures.value ∙ ap (λ v. v.items) c.replace-line.ensures.value))
    (ap (λ v. v.items) c.replace-line.ensures.after ∙ c.new.ensures.items) refl holds
