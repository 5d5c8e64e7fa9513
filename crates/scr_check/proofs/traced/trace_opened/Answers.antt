use Rattle.std.proofs.Common.{ℕ, List, map, ◌∙◌}
use Rattle.std.proofs.lemmas.Result.{IfOk-weaker}
use Rattle.scr_layout.specs.Layout.{Declaration}
use Rattle.scr_check.specs.Opening.{opening_of}
use Rattle.scr_check.specs.Origins.{origin_of, kept_at}
use Rattle.scr_check.proofs.TracedLaws.{all_same}
use Rattle.scr_check.proofs.traced.trace_opened.Goals as goal

pub returns : goal.returns
returns c =
    let layout : Declaration = c.args.layout.now in
    let records : List (List ℕ) = map (λ bytes. bytes.now) c.args.records.now in
    IfOk-weaker c.trace_each.result _ _
    (λ traced all. all (opening_of layout records) c.requires
    ∙ all_same (kept_at c.in_ok-origins.origins) (origin_of layout records) c.in_ok-origins.ensures (opening_of layout records) layout c.args.findings.now)
    c.trace_each.ensures
