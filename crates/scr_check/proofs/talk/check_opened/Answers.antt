use Rattle.std.proofs.Common.{◌≡◌, ◌==◌, [], true, false, List, length, Result, Ok, Err, sym, ◌∙◌, ap}
use Rattle.std.specs.Prelude.{IfOk}
use Rattle.std.specs.declared.alloc.AllocError.{AllocError}
use Rattle.ds_screen.specs.Picture.{Picture}
use Rattle.ds_screen.specs.Outline.{IsOutlineOf}
use Rattle.scr_layout.specs.Layout.{Declaration}
use Rattle.scr_check.specs.declared.finding.Finding.{Finding}
use Rattle.scr_check.specs.declared.talk.TalkVerdict.{TalkVerdict}
use Rattle.scr_check.specs.Findings.{findings_of}
use Rattle.scr_check.specs.Walk.{Round, stops_or, walk_from}
use Rattle.scr_check.specs.TalkSeen.{rounds_of, stop_in}
use Rattle.scr_check.proofs.WalkLaws.{stops_at, none_of}
use Rattle.scr_check.proofs.talk.check_opened.Goals as goal

pub returns-then-not-is_empty : goal.returns-then-not-is_empty
returns-then-not-is_empty c = λ v is size.
    let later = walk_from 1 v (rounds_of c.args.others.now) in
    let found = c.in_ok-findings.ensures v is size in
    let some : (length c.in_ok-findings.findings.items == 0) ≡ false = ap (λ n. n == 0) (sym c.in_ok-findings.findings.ok.0) ∙ sym c.is_empty.ensures ∙ c.if-not-is_empty.true in
    sym (ap (λ l. stops_or 0 l later) (sym found) ∙ stops_at 0 c.in_ok-findings.findings.items later some)

-- the later turns decide, where nothing is found
later_exact : (r : Result TalkVerdict AllocError) (layout : Declaration) (rounds : List Round) (P : Picture → Type 0) (found : List Finding) → found ≡ []
    → ((v : Picture) → P v → v.size ≡ layout.size → found ≡ findings_of layout v) → IfOk r (λ verdict. (v : Picture) → P v → stop_in verdict ≡ walk_from 1 v rounds)
    → IfOk r (λ verdict. (v : Picture) → P v → v.size ≡ layout.size → stop_in verdict ≡ stops_or 0 (findings_of layout v) (walk_from 1 v rounds))
later_exact (Ok verdict) layout rounds P found none tells later = λ v here sized.
    later v here ∙ ap (λ l. stops_or 0 l (walk_from 1 v rounds)) (sym none ∙ tells v here sized)
later_exact (Err e) layout rounds P found none tells later = later

pub returns : goal.returns
returns c =
    let none : (length c.in_ok-findings.findings.items == 0) ≡ true = ap (λ n. n == 0) (sym c.in_ok-findings.findings.ok.0) ∙ sym c.is_empty.ensures ∙ c.if-not-is_empty.false in
    later_exact c.check_later.result c.args.layout.now (rounds_of c.args.others.now) (λ v. IsOutlineOf c.args.outline.now v) c.in_ok-findings.findings.items
    (none_of c.in_ok-findings.findings.items none) c.in_ok-findings.ensures c.check_later.ensures
