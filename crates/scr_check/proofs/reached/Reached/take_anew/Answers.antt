use Rattle.std.proofs.Common.{◌≡◌, sym, ◌∙◌, ap, subst}
use Rattle.scr_check.specs.Checker.{Reach, AppliesOn}
use Rattle.scr_check.proofs.ReachLaws.{waits, anew_on}
use Rattle.scr_check.proofs.reached.Reached.take_anew.Goals.{else-index-gt0-via-then-index-gt0+then-is_surely_done+else-keeps, else-index-gt0-via-then-index-gt0+else-is_surely_done, else-index-gt0-via-else-index-gt0}
use Rattle.scr_check.proofs.reached.Reached.take_anew.Goals as goal

pub returns-then-keeps : goal.returns-then-keeps
returns-then-keeps c =
    waits c.args.index c.args.self.now c.keeps.new.self c.args.bytes.now c.args.cells c.args.outbound.now
    (sym c.is_surely_done.ensures ∙ c.if-is_surely_done.true) c.keeps.ensures.outline c.if-keeps.ensures.waiting

pub returns : goal.returns
returns c =
    let kept : c.else-index-gt0.self.outline ≡ c.args.self.now.outline = elim c.else-index-gt0.branch [
      | else-index-gt0-via-then-index-gt0+then-is_surely_done+else-keeps w ↦ ap (λ (s : Reach). s.outline) w.self-is ∙ w.keeps.ensures.outline
      | else-index-gt0-via-then-index-gt0+else-is_surely_done w ↦ ap (λ (s : Reach). s.outline) w.self-is
      | else-index-gt0-via-else-index-gt0 w ↦ ap (λ (s : Reach). s.outline) w.self-is
    ] in
    anew_on c.args.index c.args.self.now c.apply.new.self c.args.bytes.now c.args.cells c.args.outbound.now c.apply.result c.apply.ensures.none
    (subst (λ o. AppliesOn c.args.index o c.args.outbound.now c.apply.result c.apply.new.self.outline) kept c.apply.ensures.applied)
