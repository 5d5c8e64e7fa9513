use Rattle.std.proofs.Common.{ap, ◌∙◌}
use Rattle.cli_reasons.specs.Walked.{hears, walked_of}
use Rattle.cli_reasons.proofs.HearLaws.{empty_of, hears_end, kept_part}
use Rattle.cli_reasons.proofs.ear.Ear.end_line.Goals as goal

pub returns-then-is_empty-clause-heard : goal.returns-then-is_empty-clause-heard
returns-then-is_empty-clause-heard c past so =
    let none = empty_of c.as_slice.result.now c.args.self.now.kept.items c.as_slice.ensures.value c.if-is_empty.ensures in
    hears_end past c.args.part.now (walked_of c.args.self.now.walk) c.args.self.now.kept.items c.args.part.now c.args.self.now.kept.items
    (walked_of c.hear.new.self) c.requires.line
    (λ line is. kept_part c.args.self.now.walk.lines line c.args.self.now.kept.items c.args.part.now none is)
    c.in_ok-hear.ensures.heard none so

pub returns-clause-heard : goal.returns-clause-heard
returns-clause-heard c past so =
    let same = ap (λ ear. walked_of ear.walk) c.in_ok-keep.ensures.frame in
    let raw = c.as_slice-2.ensures.value ∙ ap (λ v. v.items) c.replace-line.ensures.value in
    hears_end past c.args.part.now (walked_of c.args.self.now.walk) c.args.self.now.kept.items c.keep.new.self.kept.items
    c.replace-line.new.dest.items (walked_of c.hear-2.new.self) c.requires.line c.in_ok-keep.ensures.kept
    (c.in_ok-hear-2.ensures.heard ∙ ap (λ w. hears w c.as_slice-2.result.now) same ∙ ap (hears (walked_of c.args.self.now.walk)) raw)
    (ap (λ v. v.items) c.replace-line.ensures.after ∙ c.new.ensures.items) so
