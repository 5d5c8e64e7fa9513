-- How far actions have come: alike, where their texts are the same, however these lie in memory.
use Rattle.std.proofs.Common.{◌≡◌, ℕ, List, refl, sym, ◌∙◌, subst}
use Rattle.cli_scripts.specs.declared.came.Need.TheVariants.{Bytes, Page, Layout}
use Rattle.cli_scripts.specs.declared.doing.Doing.{Doing}
use Rattle.cli_scripts.specs.declared.doing.Doing.TheVariants.{Typing, Writing, Checking}
use Rattle.cli_scripts.specs.declared.doing.Step.{Step}
use Rattle.cli_scripts.specs.declared.doing.Step.TheVariants.{Ended, Quits, Waits}
use Rattle.cli_scripts.specs.Says.{WantsPage, WantsLayout}
use Rattle.cli_scripts.specs.Steps.{IsTypedLater}

abbrev pub SameDoing : Doing → Doing → Type 0
SameDoing (Typing one) (Typing other) = (one.text.items ≡ other.text.items) × (one.after_send ≡ other.after_send)
SameDoing (Writing path) (Writing other) = path.items ≡ other.items
SameDoing (Checking path) (Checking other) = path.items ≡ other.items
SameDoing doing other = doing ≡ other

abbrev pub SameStep : Step → Step → Type 0
SameStep (Waits doing need) (Waits other wanted) = SameDoing doing other × (need ≡ wanted)
SameStep step other = step ≡ other

pub doing_alike : (doing : Doing) → SameDoing doing doing
doing_alike (Typing typing) = (refl, refl)
doing_alike (Writing path) = refl
doing_alike (Checking path) = refl
doing_alike doing = refl

pub step_alike : (step : Step) → SameStep step step
step_alike (Waits doing need) = (doing_alike doing, refl)
step_alike (Ended outcome) = refl
step_alike Quits = refl

pub steps_alike : (step other is : Step) → step ≡ is → other ≡ is → SameStep step other
steps_alike step other is p q =
    subst (λ (x : Step). SameStep x other) (sym p) (subst (λ (y : Step). SameStep is y) (sym q) (step_alike is))

pub later_alike : (rest : List ℕ) (step other : Step) → IsTypedLater rest step → IsTypedLater rest other → SameStep step other
later_alike rest (Waits (Typing one) Bytes) (Waits (Typing two) Bytes) (text, sends) (also, so) = ((text ∙ sym also, sends ∙ sym so), refl)
later_alike rest (Waits (Typing one) Bytes) other p q = absurd q
later_alike rest step other p q = absurd p

pub pages_alike : (path : List ℕ) (step other : Step) → WantsPage path step → WantsPage path other → SameStep step other
pages_alike path (Waits (Writing one) Page) (Waits (Writing two) Page) is so = (is ∙ sym so, refl)
pages_alike path (Waits (Writing one) Page) other is so = absurd so
pages_alike path step other is so = absurd is

pub layouts_alike : (path : List ℕ) (step other : Step) → WantsLayout path step → WantsLayout path other → SameStep step other
layouts_alike path (Waits (Checking one) Layout) (Waits (Checking two) Layout) is so = (is ∙ sym so, refl)
layouts_alike path (Waits (Checking one) Layout) other is so = absurd so
layouts_alike path step other is so = absurd is
