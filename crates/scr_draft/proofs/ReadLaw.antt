-- A draft that is given out is read as the layout that it says.
use Rattle.std.proofs.Common.{◌≡◌, ℕ, ◌≤◌, Bool, true, false, nat_le, cond, List, length, Result, Ok, Err, refl, subst}
use Rattle.std.specs.Prelude.{IfOk, String}
use Rattle.std.specs.Global.{Global}
use Rattle.std.specs.String.{string_bytes}
use Rattle.std.proofs.lemmas.Bool.{cond-true, leb-true, le-leb}
use Rattle.ds_screen.specs.Picture.{Picture, IsSound}
use Rattle.scr_layout.specs.declared.fault.LayoutFault.{LayoutFault}
use Rattle.scr_layout.specs.declared.fault.LayoutError.{LayoutError}
use Rattle.scr_layout.specs.Layout.{layout_of}
use Rattle.scr_layout.specs.Results.{Gives}
use Rattle.scr_draft.specs.Drafted.{drafted_fields, drafts_of, declared_by}
use Rattle.scr_draft.specs.Text.{draft_text}
use Rattle.scr_draft.specs.Draft.{drafted}
use Rattle.scr_draft.proofs.TextLaw.{text_reads}

given : (b : Bool) (text other : List ℕ) (fault : LayoutFault) → cond {A = Result (List ℕ) LayoutFault} b (Ok text) (Err fault) ≡ Ok other → (b ≡ true) × (text ≡ other)
given true text other fault gives = (refl, cc)
given false text other fault gives = absurd cc

pub drafted_reads : (v : Picture) (r : Result (String Global) LayoutError) → IsSound v → Gives string_bytes r (drafted v)
    → IfOk r (λ text. layout_of (string_bytes text) ≡ Ok (declared_by v))
unfolding drafted
drafted_reads v (Err e) sound gives = tt
drafted_reads v (Ok text) sound gives =
    let both = given (nat_le (length (drafted_fields v.cells)) 1000) (draft_text v (drafts_of v)) (string_bytes text) _ gives in
    subst (λ t. layout_of t ≡ Ok (declared_by v)) both.1 (text_reads v sound (leb-true (length (drafted_fields v.cells)) 1000 both.0))

pub drafted_printed : (v : Picture) → length (drafted_fields v.cells) ≤ 1000 → drafted v ≡ Ok (draft_text v (drafts_of v))
unfolding drafted
drafted_printed v few = cond-true (nat_le (length (drafted_fields v.cells)) 1000) _ _ (le-leb (length (drafted_fields v.cells)) 1000 few)
