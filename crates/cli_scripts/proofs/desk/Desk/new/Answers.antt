use Rattle.std.proofs.Common.{◌≡◌, ◌++◌, ℕ, Bool, true, false, List, [], refl, sym, ap, ◌∙◌, subst}
use Rattle.tn_cores.specs.declared.device.Device.{Device}
use Rattle.tn_session.specs.declared.terminal_state.TerminalState.{TerminalState}
use Rattle.tn_session.specs.Talk.{Talk}
use Rattle.cli_scripts.specs.declared.deed.Deed.{Deed}
use Rattle.cli_scripts.specs.Deeds.{Did, DidSo, new_talk}
use Rattle.cli_scripts.specs.Desks.{desk_of}
use Rattle.cli_scripts.specs.SentOn.{SentOn, collected}
use Rattle.cli_scripts.proofs.desk.Desk.new.Goals as goal

none_collected : (collects : Bool) (judged unjudged : List SentOn) → judged ≡ [] → unjudged ≡ [] → judged ++ unjudged ≡ collected collects []
none_collected true judged unjudged none no_more = ap (λ z. z ++ unjudged) none ∙ no_more
none_collected false judged unjudged none no_more = ap (λ z. z ++ unjudged) none ∙ no_more

nothing : (device : Device) (deeds : List Deed) (heard gone due : List ℕ) (talk : Talk TerminalState) (collects : Bool) (judged unjudged : List SentOn)
    → deeds ≡ [] → heard ≡ [] → gone ≡ [] → due ≡ [] → talk ≡ new_talk device → judged ≡ [] → unjudged ≡ []
    → DidSo device deeds heard (gone ++ due) talk collects (judged ++ unjudged)
nothing device deeds heard gone due talk collects judged unjudged none unheard ungone undue is unseen unkept = (
  [],
  subst (λ (ds : List Deed). Did device ds heard (gone ++ due) [] (new_talk device) talk) (sym none)
      (unheard, ap (λ z. z ++ due) ungone ∙ undue, refl, is),
  none_collected collects judged unjudged unseen unkept,
)

pub invariant_of-result : goal.invariant_of-result
invariant_of-result c =
    nothing c.args.device c.new-2.result.items c.new-3.result.items c.new-4.result.items c.new.result.items c.in_ok-new_session.field-0.talk
    c.args.collects c.new-5.result.items c.new-6.result.items c.new-2.ensures c.new-3.ensures c.new-4.ensures
    c.new.ensures.items (ap (λ w. w.talk) c.in_ok-new_session.ensures) c.new-5.ensures c.new-6.ensures.items

-- each part of a desk
parts : (device : Device) (collects : Bool) (deeds : List Deed) (heard gone due : List ℕ) (talk : Talk TerminalState) (judged unjudged : List SentOn)
    (told : ℕ) → deeds ≡ [] → heard ≡ [] → gone ≡ [] → due ≡ [] → talk ≡ new_talk device → judged ≡ [] → unjudged ≡ [] → told ≡ 0
    → record (desk_of device collects) { talk = talk; deeds = deeds; heard = heard; gone = gone; due = due; judged = judged; unjudged = unjudged; told = told }
    ≡ desk_of device collects
parts device collects deeds heard gone due talk judged unjudged told none unheard ungone undue is unseen unkept untold =
    ap (λ z. record (desk_of device collects) { talk = z; deeds = deeds; heard = heard; gone = gone; due = due; judged = judged; unjudged = unjudged; told = told }) is
    ∙ ap (λ z. record (desk_of device collects) { deeds = z; heard = heard; gone = gone; due = due; judged = judged; unjudged = unjudged; told = told }) none
    ∙ ap (λ z. record (desk_of device collects) { heard = z; gone = gone; due = due; judged = judged; unjudged = unjudged; told = told }) unheard
    ∙ ap (λ z. record (desk_of device collects) { gone = z; due = due; judged = judged; unjudged = unjudged; told = told }) ungone
    ∙ ap (λ z. record (desk_of device collects) { due = z; judged = judged; unjudged = unjudged; told = told }) undue
    ∙ ap (λ z. record (desk_of device collects) { judged = z; unjudged = unjudged; told = told }) unseen
    ∙ ap (λ z. record (desk_of device collects) { unjudged = z; told = told }) unkept
    ∙ ap (λ (n : ℕ). record (desk_of device collects) { told = n }) untold

pub returns : goal.returns
returns c =
    parts c.args.device c.args.collects c.new-2.result.items c.new-3.result.items c.new-4.result.items c.new.result.items
    c.in_ok-new_session.field-0.talk c.new-5.result.items c.new-6.result.items c.in_ok-new_session.field-0.told.taken c.new-2.ensures c.new-3.ensures c.new-4.ensures
    c.new.ensures.items (ap (λ w. w.talk) c.in_ok-new_session.ensures) c.new-5.ensures c.new-6.ensures.items (ap (λ w. w.told.taken) c.in_ok-new_session.ensures)
