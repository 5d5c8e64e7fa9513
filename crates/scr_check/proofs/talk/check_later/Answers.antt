use Rattle.std.proofs.Common.{◌≡◌, ◌+◌, ◌==◌, true, false, length, sym, ◌∙◌, ap}
use Rattle.scr_check.specs.TalkSeen.{round_of}
use Rattle.scr_check.proofs.WalkLaws.{walks_on, walk_stops, walk_ends, none_of}
use Rattle.scr_check.proofs.talk.check_later.Goals as goal

pub returns-then-not-is_empty : goal.returns-then-not-is_empty
returns-then-not-is_empty c = λ v is.
    let before = c.loop-index.invariant v is in
    let judged = c.in_ok-findings.ensures.judges before.0 before.2 in
    let some : (length c.in_ok-findings.findings.items == 0) ≡ false = ap (λ n. n == 0) (sym c.in_ok-findings.findings.ok.0) ∙ sym c.is_empty.ensures ∙ c.if-not-is_empty.true in
    walk_stops round_of c.args.turns.now c.loop-index.index (c.loop-index.index + 1) c.index-turns-index.result before.0 c.in_ok-findings.findings.items c.loop-index-test.true c.index-turns-index.is
    judged.0 some ∙ before.1

pub loop-index-preserved : goal.loop-index-preserved
loop-index-preserved c = λ v is.
    let before = c.loop-index.invariant v is in
    let judged = c.in_ok-findings.ensures.judges before.0 before.2 in
    let none : (length c.in_ok-findings.findings.items == 0) ≡ true = ap (λ n. n == 0) (sym c.in_ok-findings.findings.ok.0) ∙ sym c.is_empty.ensures ∙ c.if-not-is_empty.false in
    let clean = none_of c.in_ok-findings.findings.items none in
    let next = judged.1 clean in (
      next.0,
      walks_on round_of c.args.turns.now c.loop-index.index (c.loop-index.index + 1) c.index-turns-index.result before.0 next.0 c.loop-index-test.true c.index-turns-index.is
          (sym judged.0 ∙ clean) next.1 ∙ before.1,
      next.2,
    )

pub returns : goal.returns
returns c = λ v is.
    let before = c.loop-index.invariant v is in
    walk_ends round_of c.args.turns.now c.loop-index.index (c.loop-index.index + 1) before.0 c.loop-index-test.false ∙ before.1
