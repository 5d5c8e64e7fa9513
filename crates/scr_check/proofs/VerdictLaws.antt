-- What the findings of a verdict promise.
use Rattle.std.proofs.Common.{◌≡◌, ◌↔◌, ℕ, List, [], Result, Ok, Err, sym, ◌∙◌, ap, subst}
use Rattle.std.specs.Prelude.{IfOk}
use Rattle.ds_screen.specs.Picture.{Picture, IsSound}
use Rattle.scr_layout.specs.Layout.{Declaration}
use Rattle.scr_check.specs.declared.finding.Finding.{Finding}
use Rattle.scr_check.specs.declared.verdict.Verdict.{Verdict}
use Rattle.scr_check.specs.declared.verdict.Verdict.TheVariants.{Yes}
use Rattle.scr_check.specs.Opening.{opening_of}
use Rattle.scr_check.specs.Findings.{findings_of, told, answer_of, Conforms}
use Rattle.scr_check.specs.Seen.{findings_in}
use Rattle.scr_check.specs.Promise.{KeepsPromise}
use Rattle.scr_check.specs.Leads.{IsPromised}
use Rattle.scr_check.specs.Any.{IsPromisedForAny}
use Rattle.scr_check.specs.Demos.{IsShown, AreShown}
use Rattle.scr_check.proofs.LeadLaws.{ok_is, opened_geometry, opened_ready, leads_from_every}
use Rattle.scr_check.proofs.PromiseLaws.{IsOpened}
use Rattle.scr_check.proofs.AnyKeys.{keeps_promise}
use Rattle.scr_check.proofs.AnyLaws.{answers_for_any}
use Rattle.scr_check.proofs.DemoLaws.{findings_shown}

pub opened_so : (layout : Declaration) (records : List (List ℕ)) (opened : Picture) → opening_of layout records ≡ Ok opened → IsSound opened → IsOpened layout opened
opened_so layout records opened opens sound =
    let ready = opened_ready layout records opened opens in
    record {
      sound = sound;
      geometry = opened_geometry layout records opened opens;
      size = ready.1.0;
      some = ready.1.1;
    }

pub promise_of : (layout : Declaration) (records : List (List ℕ)) (opened : Picture) → opening_of layout records ≡ Ok opened → IsSound opened
    → findings_of layout opened ≡ [] → KeepsPromise layout opened
promise_of layout records opened opens sound clean =
    keeps_promise layout opened (opened_so layout records opened opens sound) clean

pub clean_promised : (layout : Declaration) (records : List (List ℕ)) (opened : Picture) → opening_of layout records ≡ Ok opened → IsSound opened
    → findings_of layout opened ≡ [] → IsPromised layout records
clean_promised layout records opened opens sound clean =
    record {
      opened = opened;
      opens = opens;
      anywhere = leads_from_every layout records opened opens;
      promise = promise_of layout records opened opens sound clean;
    }

told_promised : (layout : Declaration) (records : List (List ℕ)) (r : Result Picture Finding) → opening_of layout records ≡ r → IfOk r IsSound → told layout r ≡ [] → IsPromised layout records
told_promised layout records (Err finding) opens sound none = absurd cc
told_promised layout records (Ok opened) opens sound none = clean_promised layout records opened opens sound none

pub yes_promised : (layout : Declaration) (records : List (List ℕ)) (r : Result Picture Finding) (verdict : Verdict) → r ≡ opening_of layout records → IfOk r IsSound
    → findings_in verdict ≡ told layout r → verdict ≡ Yes → IsPromised layout records
yes_promised layout records r verdict opens sound listed is =
    told_promised layout records r (sym opens) sound (sym listed ∙ ap findings_in is)

pub clean_for_any : (layout : Declaration) (records : List (List ℕ)) (opened : Picture) → opening_of layout records ≡ Ok opened → IsSound opened
    → findings_of layout opened ≡ [] → IsPromisedForAny layout records
clean_for_any layout records opened opens sound clean =
    record {
      opened = opened;
      opens = opens;
      anywhere = leads_from_every layout records opened opens;
      sound = sound;
      promise = answers_for_any layout opened (opened_so layout records opened opens sound) clean;
    }

told_for_any : (layout : Declaration) (records : List (List ℕ)) (r : Result Picture Finding) → opening_of layout records ≡ r → IfOk r IsSound → told layout r ≡ [] → IsPromisedForAny layout records
told_for_any layout records (Err finding) opens sound none = absurd cc
told_for_any layout records (Ok opened) opens sound none = clean_for_any layout records opened opens sound none

pub yes_for_any : (layout : Declaration) (records : List (List ℕ)) (r : Result Picture Finding) (verdict : Verdict) → r ≡ opening_of layout records → IfOk r IsSound
    → findings_in verdict ≡ told layout r → verdict ≡ Yes → IsPromisedForAny layout records
yes_for_any layout records r verdict opens sound listed is =
    told_for_any layout records r (sym opens) sound (sym listed ∙ ap findings_in is)

pub opened_size : (layout : Declaration) (records : List (List ℕ)) (v : Picture) → opening_of layout records ≡ Ok v → v.size ≡ layout.size
opened_size layout records v opens = (opened_ready layout records v opens).1.0

-- what is found by the layout that is lent
pub found_opened : (lent layout : Declaration) (records : List (List ℕ)) (v : Picture) (findings : List Finding) → lent ≡ layout → opening_of layout records ≡ Ok v
    → (v.size ≡ lent.size → findings ≡ findings_of lent v) → findings ≡ findings_of layout v
found_opened lent layout records v findings same opens found =
    let P : Declaration → Type 0 = λ l. v.size ≡ l.size → findings ≡ findings_of l v in
    subst P same found (opened_size layout records v opens)

told_shown : (layout : Declaration) (records : List (List ℕ)) (r : Result Picture Finding) → opening_of layout records ≡ r → IfOk r IsSound → AreShown layout records (told layout r)
told_shown layout records (Err finding) opens sound = λ v opened. absurd (other v (sym opens ∙ opened))
  where
    other : (v : Picture) → Err finding ≡ Ok v → ⊥
    other v e = cc
told_shown layout records (Ok first) opens sound = λ v opened index finding there.
    let same : first ≡ v = ok_is first v (opening_of layout records) opens opened in
    let free = (opened_ready layout records first opens).0 in
    let shown = findings_shown layout first sound free index finding there in
    let P : Picture → Type 0 = λ w. IsShown layout w finding in
    subst P same shown

pub all_shown : (layout : Declaration) (records : List (List ℕ)) (r : Result Picture Finding) (verdict : Verdict) → r ≡ opening_of layout records → IfOk r IsSound
    → findings_in verdict ≡ told layout r → AreShown layout records (findings_in verdict)
all_shown layout records r verdict opens sound listed =
    let P : List Finding → Type 0 = AreShown layout records in
    subst P (sym listed) (told_shown layout records r (sym opens) sound)

-- what is listed are the findings of the records
pub all_listed : (layout : Declaration) (records : List (List ℕ)) (v : Picture) (findings : List Finding) → opening_of layout records ≡ Ok v → findings ≡ findings_of layout v
    → findings ≡ answer_of layout records
all_listed layout records v findings opens found = found ∙ sym (ap (told layout) opens)

pub yes_means : (layout : Declaration) (records : List (List ℕ)) (v : Picture) (verdict : Verdict) (findings : List Finding) → opening_of layout records ≡ Ok v → findings ≡ findings_of layout v
    → (verdict ≡ Yes ↔ findings ≡ []) → (verdict ≡ Yes ↔ Conforms layout records)
yes_means layout records v verdict findings opens found means = (
  λ is. record { picture = v; opens = opens; clean = sym found ∙ means.0 is },
  λ conforms.
      let same : conforms.picture ≡ v = ok_is conforms.picture v (opening_of layout records) conforms.opens opens in
      means.1 (found ∙ subst (λ (p : Picture). findings_of layout p ≡ []) same conforms.clean),
)
