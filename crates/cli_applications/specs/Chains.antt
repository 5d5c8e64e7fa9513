-- Chains of keys, from the screen that is shown first to each other one.
use Rattle.std.specs.Prelude.{ℕ, ◌≡◌, ◌<◌, ◌↔◌, ◌==◌, nat_lt, Bool, true, ◌&&◌, not, List, [], ◌∷◌, ◌++◌, length, Option, Some, None, slice_get, Result, Ok, Err, if◌then◌else◌}
use Rattle.std.specs.List.{list_any}
use Rattle.tn_dialogue.specs.declared.screen.Lead.{Lead}
use Rattle.tn_dialogue.specs.declared.screen.Next.{Next}
use Rattle.tn_dialogue.specs.declared.screen.Next.TheVariants.{Shows, Ends}
use Rattle.cli_applications.specs.declared.fault.ManifestError.{ManifestError}
use Rattle.cli_applications.specs.declared.fault.ManifestError.TheVariants.{OutOfMemory, Refused}
use Rattle.cli_applications.specs.declared.fault.ManifestFault.{ManifestFault}
use Rattle.cli_applications.specs.declared.fault.ManifestKey.TheVariants.{Name}
use Rattle.cli_applications.specs.declared.fault.Why.TheVariants.{NoWay}
use Rattle.cli_applications.specs.Fault.{at_key, in_screen}
use Rattle.cli_applications.specs.Manifest.{Declared, Planned, leads_to}

-- ---- a chain

abbrev pub leads_in : Option Planned → List Lead
leads_in None = []
leads_in (Some screen) = screen.leads

-- where the keys of the p-th screen lead
abbrev pub leads_of : List Planned → ℕ → List Lead
leads_of screens p = leads_in (slice_get screens p)

-- from the p-th screen a key leads to the first of the way, from there a key to the second, and so on, the last of which is the n-th
abbrev pub LeadsBy : List Planned → ℕ → List ℕ → ℕ → Type 0
LeadsBy screens p [] n = p ≡ n
LeadsBy screens p (q ∷ way) n = (leads_to (leads_of screens p) q ≡ true) × LeadsBy screens q way n

-- there is a chain of keys from the first screen to the n-th
abbrev pub HasWay : List Planned → ℕ → ℕ → Type 0
HasWay screens first n = (way : List ℕ) × LeadsBy screens first way n

abbrev pub AllHaveWays : List Planned → ℕ → Type 0
AllHaveWays screens first = (n : ℕ) → n < length screens → HasWay screens first n

-- the n-th has none, and each before it has one
abbrev pub IsFirstLost : List Planned → ℕ → ℕ → Type 0
IsFirstLost screens first n = (n < length screens) × ¬ HasWay screens first n × ((m : ℕ) → m < n → HasWay screens first m)

-- ---- what a text declares

-- the first refusal of the text, or else its first screen that has no way
abbrev pub IsRefusedBy : ManifestFault → Result Declared ManifestFault → Type 0
IsRefusedBy fault (Err first) = fault ≡ first
IsRefusedBy fault (Ok read) = (n : ℕ) × IsFirstLost read.screens read.first n × (fault ≡ in_screen n (at_key Name NoWay))

-- What a text says is taken where each of its screens has a way, and only there.
abbrev pub Declares : Result Declared ManifestError → Result Declared ManifestFault → Type 0
Declares (Ok manifest) said = (said ≡ Ok manifest) × AllHaveWays manifest.screens manifest.first
Declares (Err OutOfMemory) said = Unit {0}
Declares (Err (Refused fault)) said = IsRefusedBy fault said

-- ---- those that were found

abbrev pub has : List ℕ → ℕ → Bool
has found n = list_any (λ m. n == m) found

-- one more, where it is below the count and isn't there
abbrev pub with_one : ℕ → List ℕ → ℕ → List ℕ
with_one count found n = if nat_lt n count && not (has found n) then found ++ n ∷ [] else found

abbrev pub with_next : ℕ → List ℕ → Next → List ℕ
with_next count found (Shows n) = with_one count found n
with_next count found Ends = found

abbrev pub with_leads : ℕ → List ℕ → List Lead → List ℕ
with_leads count found [] = found
with_leads count found (lead ∷ leads) = with_leads count (with_next count found lead.next) leads

-- those to which there is a chain
abbrev pub AreReached : List Planned → ℕ → List ℕ → Type 0
AreReached screens first found = (n : ℕ) → n < length screens → (has found n ≡ true) ↔ HasWay screens first n
