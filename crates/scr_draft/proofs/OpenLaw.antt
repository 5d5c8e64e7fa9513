-- The checker's opening is that of a draft, on a screen of the layout's size.
use Rattle.std.proofs.Common.{◌≡◌, ℕ, ◌==◌, not, Bool, true, false, cond, List, [], ◌∷◌, Result, Ok, Err, refl, sym, ◌∙◌, ap}
use Rattle.std.specs.Prelude.{IfOk, String}
use Rattle.std.specs.declared.alloc.AllocError.{AllocError}
use Rattle.std.specs.Global.{Global}
use Rattle.std.specs.String.{string_bytes}
use Rattle.std.proofs.lemmas.Bool.{eq-eqb, and_from}
use Rattle.ds_codec.specs.declared.size.Size.{Size}
use Rattle.ds_codec.specs.Geometry.{Sizes}
use Rattle.ds_codec.specs.Reading.{◌>>=◌}
use Rattle.ds_codec.specs.Same.{same_size}
use Rattle.ds_codec.proofs.Same.{size_self}
use Rattle.ds_screen.specs.Picture.{Picture, IsSound}
use Rattle.ds_screen.specs.Fields.{fields_of}
use Rattle.ds_screen.specs.Records.{new_picture}
use Rattle.scr_layout.specs.Layout.{Declaration}
use Rattle.scr_check.specs.declared.finding.Finding.{Finding}
use Rattle.scr_check.specs.declared.finding.Finding.TheVariants.{KeyboardLocked, OtherSize, Unformatted}
use Rattle.scr_check.specs.Opening.{is_free, is_none_of, taken_from, ready, opening_of}
use Rattle.scr_check.specs.Findings.{findings_of, told, Conforms}
use Rattle.scr_check.proofs.LeadLaws.{opened_geometry}
use Rattle.scr_draft.specs.declared.opening.Opened.{Opened}
use Rattle.scr_draft.specs.declared.opening.Opened.TheVariants.{Leads, Stands}
use Rattle.scr_draft.specs.Opened.{opened, IsOpened}
use Rattle.scr_layout.specs.declared.fault.LayoutError.{LayoutError}
use Rattle.scr_layout.specs.Results.{Gives}
use Rattle.scr_draft.specs.Draft.{drafted}
use Rattle.scr_draft.specs.Drafted.{declared_by}
use Rattle.scr_draft.specs.Best.{IsBest, SaysBest, FitsNone}
use Rattle.scr_draft.proofs.ReadLaw.{drafted_reads}
use Rattle.scr_draft.proofs.BestLaw.{draft_left, all_left}

ok_same : {A E : Type 0} (x y : A) → ◌≡◌ {A = Result A E} (Ok x) (Ok y) → x ≡ y
ok_same x y is = cc

-- ---- ready for a layout of the size that is shown, and for one of another
abbrev both_ready : (free other none : Bool) (w : Picture) (size : Size) → Result Picture Finding
both_ready free other none w size = cond (not free) (Err KeyboardLocked) (cond (not other) (Err (OtherSize w.size size)) (cond none (Err Unformatted) (Ok w)))

own_ready : (free other own none : Bool) (w p : Picture) (size : Size) → own ≡ true → both_ready free other none w size ≡ Ok p
    → both_ready free own none w w.size ≡ Ok p
own_ready false other own none w p size same is = absurd cc
own_ready true false own none w p size same is = absurd cc
own_ready true true false none w p size same is = absurd cc
own_ready true true true true w p size same is = absurd cc
own_ready true true true false w p size same is = is

ready_is : (free other none : Bool) (w p : Picture) (size : Size) → both_ready free other none w size ≡ Ok p → w ≡ p
ready_is false other none w p size is = absurd cc
ready_is true false none w p size is = absurd cc
ready_is true true true w p size is = absurd cc
ready_is true true false w p size is = ok_same w p is

-- ---- the records
opens_on : (size : Size) (p : Picture) (r : Result Picture Finding) → (r >>= ready size) ≡ Ok p → (r >>= λ v. ready v.size v) ≡ Ok p
opens_on size p (Err finding) is = absurd cc
opens_on size p (Ok w) is =
    own_ready (is_free w.lock) (same_size w.size size) (same_size w.size w.size) (is_none_of (fields_of w.cells)) w p size (size_self w.size) is

-- what a layout's records open is opened
opens : (layout : Declaration) (records : List (List ℕ)) (p : Picture) → opening_of layout records ≡ Ok p → opened layout.geometry records ≡ Ok p
opens layout [] p is = absurd cc
opens layout (bytes ∷ others) p is = opens_on layout.size p (taken_from 0 (new_picture layout.geometry) (bytes ∷ others)) is

opened_on : (p : Picture) (r : Result Picture Finding) → (r >>= λ v. ready v.size v) ≡ Ok p → (r >>= ready p.size) ≡ Ok p
opened_on p (Err finding) is = absurd cc
opened_on p (Ok w) is =
    let same : w ≡ p = ready_is (is_free w.lock) (same_size w.size w.size) (is_none_of (fields_of w.cells)) w p w.size is in
    ap (λ (q : Picture). ready q.size w) (sym same) ∙ is

-- what is opened is so for a layout of this geometry and its size
opened_by : (layout : Declaration) (records : List (List ℕ)) (p : Picture) → layout.size ≡ p.size → opened layout.geometry records ≡ Ok p → opening_of layout records ≡ Ok p
opened_by layout [] p sized is = absurd cc
opened_by layout (bytes ∷ others) p sized is =
    let r = taken_from 0 (new_picture layout.geometry) (bytes ∷ others) in
    ap (λ (s : Size). r >>= ready s) sized ∙ opened_on p r is

-- of the terminal's geometry
plain : Sizes → Picture → Declaration
plain geometry p = record { geometry = geometry; size = p.size; entries = [] }

geometry_is : (geometry : Sizes) (records : List (List ℕ)) (p : Picture) → opened geometry records ≡ Ok p → p.geometry ≡ geometry
unfolding plain
geometry_is geometry records p is = opened_geometry (plain geometry p) records p (opened_by (plain geometry p) records p refl is)

-- ---- the draft
drafted_opens : (v : Picture) (records : List (List ℕ)) → opened v.geometry records ≡ Ok v → opening_of (declared_by v) records ≡ Ok v
drafted_opens v records is = opened_by (declared_by v) records v refl is

drafted_best : (v : Picture) (layout : Declaration) (records : List (List ℕ)) → opened layout.geometry records ≡ Ok v → Conforms layout records
    → Conforms (declared_by v) records
drafted_best v layout records is conforms =
    let same : conforms.picture ≡ v = ok_same conforms.picture v (sym (opens layout records conforms.picture conforms.opens) ∙ is) in
    let clean : findings_of layout v ≡ [] = ap (findings_of layout) (sym same) ∙ conforms.clean in
    let here : opened v.geometry records ≡ Ok v = ap (λ g. opened g records) (geometry_is layout.geometry records v is) ∙ is in
    record { picture = v; opens = drafted_opens v records here; clean = draft_left v ∙ all_left layout v clean }

pub drafted_is_best : (v : Picture) → IsBest v (declared_by v)
drafted_is_best v =
    record {
      left = λ records is. ap (told (declared_by v)) (drafted_opens v records is) ∙ draft_left v;
      best = drafted_best v;
    }

fits_none : (geometry : Sizes) (records : List (List ℕ)) (finding : Finding) → opened geometry records ≡ Err finding
    → (layout : Declaration) → layout.geometry ≡ geometry → Conforms layout records → ⊥
fits_none geometry records finding stands layout same conforms =
    err_ok finding conforms.picture (sym stands ∙ ap (λ g. opened g records) (sym same) ∙ opens layout records conforms.picture conforms.opens)
  where
    err_ok : (finding : Finding) (p : Picture) → ◌≡◌ {A = Result Picture Finding} (Err finding) (Ok p) → ⊥
    err_ok finding p is = cc

pub opening_fits : (geometry : Sizes) (records : List (List ℕ)) (o : Opened) → IsOpened (opened geometry records) o → FitsNone geometry records o
opening_fits geometry records (Leads screen) is = tt
opening_fits geometry records (Stands finding) is = fits_none geometry records finding is

pub drafted_says : (v : Picture) (r : Result (String Global) LayoutError) → IsSound v → Gives string_bytes r (drafted v) → IfOk r (λ text. SaysBest v (string_bytes text))
drafted_says v (Err e) sound gives = tt
drafted_says v (Ok text) sound gives = (declared_by v, drafted_reads v (Ok text) sound gives, drafted_is_best v)

pub opened_fits : (geometry : Sizes) (records : List (List ℕ)) (r : Result Opened AllocError) → IfOk r (IsOpened (opened geometry records)) → IfOk r (FitsNone geometry records)
opened_fits geometry records (Err e) is = tt
opened_fits geometry records (Ok o) is = opening_fits geometry records o is
