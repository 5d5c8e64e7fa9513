use Rattle.std.proofs.Common.{ℕ, List, Ok, sym, ◌∙◌, subst}
use Rattle.scr_layout.specs.Layout.{Declaration}
use Rattle.scr_check.specs.Seen.{IsOpening}
use Rattle.scr_check.proofs.VerdictLaws.{yes_promised, yes_for_any, all_shown, found_opened, all_listed, yes_means}
use Rattle.scr_check.proofs.checker.Checker.judged.Goals as goal

pub returns-in_ok-findings_of-in-Leads-clause-promise : goal.returns-in_ok-findings_of-in-Leads-clause-promise
returns-in_ok-findings_of-in-Leads-clause-promise c =
    let layout : Declaration = c.args.self.layout in
    let records : List (List ℕ) = c.args.self.records in
    let opened = subst (IsOpening layout records) c.in-Leads.is c.opened.ensures in
    let found = found_opened c.layout-layout.result.now layout records opened.0 _ c.layout-layout.ensures opened.1 (c.in_ok-findings_of-in-Leads.ensures opened.0 opened.2) in
    yes_promised layout records (Ok opened.0) c.verdict_of.result (sym opened.1) opened.2.sound (c.verdict_of.ensures.listed ∙ found)

pub returns-in_ok-findings_of-in-Leads-clause-any : goal.returns-in_ok-findings_of-in-Leads-clause-any
returns-in_ok-findings_of-in-Leads-clause-any c =
    let layout : Declaration = c.args.self.layout in
    let records : List (List ℕ) = c.args.self.records in
    let opened = subst (IsOpening layout records) c.in-Leads.is c.opened.ensures in
    let found = found_opened c.layout-layout.result.now layout records opened.0 _ c.layout-layout.ensures opened.1 (c.in_ok-findings_of-in-Leads.ensures opened.0 opened.2) in
    yes_for_any layout records (Ok opened.0) c.verdict_of.result (sym opened.1) opened.2.sound (c.verdict_of.ensures.listed ∙ found)

pub returns-in_ok-findings_of-in-Leads-clause-shown : goal.returns-in_ok-findings_of-in-Leads-clause-shown
returns-in_ok-findings_of-in-Leads-clause-shown c =
    let layout : Declaration = c.args.self.layout in
    let records : List (List ℕ) = c.args.self.records in
    let opened = subst (IsOpening layout records) c.in-Leads.is c.opened.ensures in
    let found = found_opened c.layout-layout.result.now layout records opened.0 _ c.layout-layout.ensures opened.1 (c.in_ok-findings_of-in-Leads.ensures opened.0 opened.2) in
    all_shown layout records (Ok opened.0) c.verdict_of.result (sym opened.1) opened.2.sound (c.verdict_of.ensures.listed ∙ found)

pub returns-in_ok-findings_of-in-Leads-clause-yes : goal.returns-in_ok-findings_of-in-Leads-clause-yes
returns-in_ok-findings_of-in-Leads-clause-yes c =
    let layout : Declaration = c.args.self.layout in
    let records : List (List ℕ) = c.args.self.records in
    let opened = subst (IsOpening layout records) c.in-Leads.is c.opened.ensures in
    let found = found_opened c.layout-layout.result.now layout records opened.0 _ c.layout-layout.ensures opened.1 (c.in_ok-findings_of-in-Leads.ensures opened.0 opened.2) in
    yes_means layout records opened.0 c.verdict_of.result _ opened.1 found c.verdict_of.ensures.yes

pub returns-in_ok-findings_of-in-Leads-clause-listed : goal.returns-in_ok-findings_of-in-Leads-clause-listed
returns-in_ok-findings_of-in-Leads-clause-listed c =
    let layout : Declaration = c.args.self.layout in
    let records : List (List ℕ) = c.args.self.records in
    let opened = subst (IsOpening layout records) c.in-Leads.is c.opened.ensures in
    let found = found_opened c.layout-layout.result.now layout records opened.0 _ c.layout-layout.ensures opened.1 (c.in_ok-findings_of-in-Leads.ensures opened.0 opened.2) in
    all_listed layout records opened.0 _ opened.1 (c.verdict_of.ensures.listed ∙ found)
