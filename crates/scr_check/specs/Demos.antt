-- What keys show of what was found.
use Rattle.std.specs.Prelude.{◌≡◌, ℕ, ◌<◌, ◌⊎◌, true, false, List, [], ◌∷◌, ◌++◌, length, replicate, slice_get, Option, Some, None, Ok}
use Rattle.ds_screen.specs.Picture.{Picture}
use Rattle.ds_keys.specs.declared.key.Key.{Key}
use Rattle.ds_keys.specs.declared.key.Key.TheVariants.{Typed, Right, Attention}
use Rattle.ds_keys.specs.KeyRuns as keyed
use Rattle.ds_inbound.specs.Answer as inbound
use Rattle.scr_layout.specs.declared.entry.Kind.TheVariants.{Fixed}
use Rattle.scr_layout.specs.Entry.{Declared}
use Rattle.scr_layout.specs.Layout.{Declaration}
use Rattle.scr_check.specs.declared.finding.Demo.{Demo}
use Rattle.scr_check.specs.declared.finding.Finding.{Finding}
use Rattle.scr_check.specs.declared.finding.Finding.TheVariants.{Undeclared, UndeclaredFixed, TooLong, OtherKind, EmptyModified}
use Rattle.scr_check.specs.Opening.{opening_of}
use Rattle.scr_check.specs.Findings.{entry_at}
use Rattle.scr_check.specs.Promise.{BreaksPromise}

-- the keys of a demo: Right so many times, then the character C1 so many times, then Enter
abbrev pub demo_keys : Demo → List Key
demo_keys demo = replicate demo.rights Right ++ (replicate demo.types (Typed 0xC1) ++ Attention 0x7D ∷ [])

-- what the terminal sends once the keys are pressed
abbrev pub demo_answer : Picture → Demo → inbound.Answer
demo_answer v demo = inbound.answer_of (keyed.after v (demo_keys demo)) false

-- a field without an entry, or longer than its entry declares
abbrev pub IsUnfit : List Declared → inbound.Sent → Type 0
IsUnfit entries field =
    (entry_at entries field.place ≡ None)
    ⊎ ((index : ℕ) × (entry : Declared) × (entry_at entries field.place ≡ Some index) × (slice_get entries index ≡ Some entry) × (entry.length < length field.characters))

-- The demo's keys are all accepted, and the answer has an unfit field; and some keys before the first attention key break
-- the promise.
pub record DemoShows (layout : Declaration) (v : Picture) (demo : Demo) : Type 0 where
  pub accepted : keyed.are_accepted v (demo_keys demo) ≡ true
  pub at : ℕ
  pub field : inbound.Sent
  pub there : slice_get (demo_answer v demo).fields at ≡ Some field
  pub unfit : IsUnfit layout.entries field
  pub breaks : BreaksPromise layout v

abbrev pub DemoShowsIf : Declaration → Picture → Option Demo → Type 0
DemoShowsIf layout v None = Unit {0}
DemoShowsIf layout v (Some demo) = DemoShows layout v demo

-- the entry of this index is a fixed one
abbrev pub IsFixedEntry : Declaration → ℕ → Type 0
IsFixedEntry layout index = (entry : Declared) × (slice_get layout.entries index ≡ Some entry) × (entry.kind ≡ Fixed)

-- A finding with a demo is shown by its keys; of an empty modified field without an entry, and of a fixed entry on an
-- unprotected field, some keys break the promise. Of the others nothing is said.
abbrev pub IsShown : Declaration → Picture → Finding → Type 0
IsShown layout v (Undeclared place demo) = DemoShows layout v demo
IsShown layout v (UndeclaredFixed place demo) = DemoShows layout v demo
IsShown layout v (TooLong overlong) = DemoShowsIf layout v overlong.demo
IsShown layout v (EmptyModified place) = entry_at layout.entries place ≡ None → BreaksPromise layout v
IsShown layout v (OtherKind index) = IsFixedEntry layout index → BreaksPromise layout v
IsShown layout v finding = Unit {0}

-- each finding of a picture that the records left
abbrev pub AreShown : Declaration → List (List ℕ) → List Finding → Type 0
AreShown layout records findings =
    (v : Picture) → opening_of layout records ≡ Ok v → (index : ℕ) → (finding : Finding) → slice_get findings index ≡ Some finding → IsShown layout v finding
