use Rattle.std.proofs.Common.{ℕ, List, map, refl, subst}
use Rattle.scr_layout.specs.Layout.{Declaration}
use Rattle.scr_check.specs.Seen.{IsOpening}
use Rattle.scr_check.proofs.PenVerdict.{listed_so, pen_listed, pen_yes, pen_promised, pen_for_any, pen_with_pen, pen_shown}
use Rattle.scr_check.proofs.pen.check_with_pen.Goals as goal

pub returns-in_ok-add_selectable-in-Leads-clause-yes : goal.returns-in_ok-add_selectable-in-Leads-clause-yes
returns-in_ok-add_selectable-in-Leads-clause-yes c =
    let layout : Declaration = c.args.layout.now in
    let records : List (List ℕ) = map (λ bytes. bytes.now) c.args.records.now in
    let opened = subst (IsOpening layout records) c.in-Leads.is c.in_ok-finding.ensures in
    let l = listed_so layout layout records opened.0 c.in_ok-screen-in-Leads.screen c.verdict_of-in-Leads.result c.in_ok-findings-in-Leads.findings.items _ refl opened.1 opened.2.sound
    (c.in_ok-findings-in-Leads.ensures opened.0 opened.2) c.in_ok-screen-in-Leads.ensures c.in_ok-add_selectable-in-Leads.ensures c.verdict_of-in-Leads.ensures.listed c.verdict_of-in-Leads.ensures.yes in
    pen_yes layout records opened.0 c.verdict_of-in-Leads.result l

pub returns-in_ok-add_selectable-in-Leads-clause-listed : goal.returns-in_ok-add_selectable-in-Leads-clause-listed
returns-in_ok-add_selectable-in-Leads-clause-listed c =
    let layout : Declaration = c.args.layout.now in
    let records : List (List ℕ) = map (λ bytes. bytes.now) c.args.records.now in
    let opened = subst (IsOpening layout records) c.in-Leads.is c.in_ok-finding.ensures in
    let l = listed_so layout layout records opened.0 c.in_ok-screen-in-Leads.screen c.verdict_of-in-Leads.result c.in_ok-findings-in-Leads.findings.items _ refl opened.1 opened.2.sound
    (c.in_ok-findings-in-Leads.ensures opened.0 opened.2) c.in_ok-screen-in-Leads.ensures c.in_ok-add_selectable-in-Leads.ensures c.verdict_of-in-Leads.ensures.listed c.verdict_of-in-Leads.ensures.yes in
    pen_listed layout records opened.0 c.verdict_of-in-Leads.result l

pub returns-in_ok-add_selectable-in-Leads-clause-promise : goal.returns-in_ok-add_selectable-in-Leads-clause-promise
returns-in_ok-add_selectable-in-Leads-clause-promise c =
    let layout : Declaration = c.args.layout.now in
    let records : List (List ℕ) = map (λ bytes. bytes.now) c.args.records.now in
    let opened = subst (IsOpening layout records) c.in-Leads.is c.in_ok-finding.ensures in
    let l = listed_so layout layout records opened.0 c.in_ok-screen-in-Leads.screen c.verdict_of-in-Leads.result c.in_ok-findings-in-Leads.findings.items _ refl opened.1 opened.2.sound
    (c.in_ok-findings-in-Leads.ensures opened.0 opened.2) c.in_ok-screen-in-Leads.ensures c.in_ok-add_selectable-in-Leads.ensures c.verdict_of-in-Leads.ensures.listed c.verdict_of-in-Leads.ensures.yes in
    pen_promised layout records opened.0 c.verdict_of-in-Leads.result l

pub returns-in_ok-add_selectable-in-Leads-clause-any : goal.returns-in_ok-add_selectable-in-Leads-clause-any
returns-in_ok-add_selectable-in-Leads-clause-any c =
    let layout : Declaration = c.args.layout.now in
    let records : List (List ℕ) = map (λ bytes. bytes.now) c.args.records.now in
    let opened = subst (IsOpening layout records) c.in-Leads.is c.in_ok-finding.ensures in
    let l = listed_so layout layout records opened.0 c.in_ok-screen-in-Leads.screen c.verdict_of-in-Leads.result c.in_ok-findings-in-Leads.findings.items _ refl opened.1 opened.2.sound
    (c.in_ok-findings-in-Leads.ensures opened.0 opened.2) c.in_ok-screen-in-Leads.ensures c.in_ok-add_selectable-in-Leads.ensures c.verdict_of-in-Leads.ensures.listed c.verdict_of-in-Leads.ensures.yes in
    pen_for_any layout records opened.0 c.verdict_of-in-Leads.result l

pub returns-in_ok-add_selectable-in-Leads-clause-pen : goal.returns-in_ok-add_selectable-in-Leads-clause-pen
returns-in_ok-add_selectable-in-Leads-clause-pen c =
    let layout : Declaration = c.args.layout.now in
    let records : List (List ℕ) = map (λ bytes. bytes.now) c.args.records.now in
    let opened = subst (IsOpening layout records) c.in-Leads.is c.in_ok-finding.ensures in
    let l = listed_so layout layout records opened.0 c.in_ok-screen-in-Leads.screen c.verdict_of-in-Leads.result c.in_ok-findings-in-Leads.findings.items _ refl opened.1 opened.2.sound
    (c.in_ok-findings-in-Leads.ensures opened.0 opened.2) c.in_ok-screen-in-Leads.ensures c.in_ok-add_selectable-in-Leads.ensures c.verdict_of-in-Leads.ensures.listed c.verdict_of-in-Leads.ensures.yes in
    pen_with_pen layout records opened.0 c.verdict_of-in-Leads.result l

pub returns-in_ok-add_selectable-in-Leads-clause-shown : goal.returns-in_ok-add_selectable-in-Leads-clause-shown
returns-in_ok-add_selectable-in-Leads-clause-shown c =
    let layout : Declaration = c.args.layout.now in
    let records : List (List ℕ) = map (λ bytes. bytes.now) c.args.records.now in
    let opened = subst (IsOpening layout records) c.in-Leads.is c.in_ok-finding.ensures in
    let l = listed_so layout layout records opened.0 c.in_ok-screen-in-Leads.screen c.verdict_of-in-Leads.result c.in_ok-findings-in-Leads.findings.items _ refl opened.1 opened.2.sound
    (c.in_ok-findings-in-Leads.ensures opened.0 opened.2) c.in_ok-screen-in-Leads.ensures c.in_ok-add_selectable-in-Leads.ensures c.verdict_of-in-Leads.ensures.listed c.verdict_of-in-Leads.ensures.yes in
    pen_shown layout records opened.0 c.verdict_of-in-Leads.result l
