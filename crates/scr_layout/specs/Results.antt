-- Steps of a reading, each of which gives a value or a fault.
use Rattle.std.specs.Prelude.{◌≡◌, ◌⊎◌, ℕ, Bool, if◌then◌else◌, Result, Ok, Err}
use Rattle.scr_layout.specs.declared.fault.LayoutFault.{LayoutFault}
use Rattle.scr_layout.specs.declared.fault.LayoutError.{LayoutError}
use Rattle.scr_layout.specs.declared.fault.LayoutError.TheVariants.{OutOfMemory, Refused}
use Rattle.scr_layout.specs.Fault as fault

-- one step after another, up to the first fault
infixl 10 ◌>>=◌
abbrev pub ◌>>=◌ : {A B : Type 0} → Result A LayoutFault → (A → Result B LayoutFault) → Result B LayoutFault
(Ok x) >>= f = f x
(Err e) >>= f = Err e

-- the value where the test holds
abbrev pub tested : {A : Type 0} → Bool → A → LayoutFault → Result A LayoutFault
tested test x fault = if test then Ok x else Err fault

-- a fault is one of this field
abbrev pub in_field : {A : Type 0} → ℕ → Result A LayoutFault → Result A LayoutFault
in_field n (Ok x) = Ok x
in_field n (Err e) = Err (fault.in_field n e)

-- a result, seen by view, is what reading gives
abbrev pub Tells : {X Y : Type 0} → (X → Y) → Result X LayoutFault → Result Y LayoutFault → Type 0
Tells view (Ok x) read = read ≡ Ok (view x)
Tells view (Err e) read = read ≡ Err e

-- the same of an error, unless memory ran out
abbrev pub Fails : {Y : Type 0} → LayoutError → Result Y LayoutFault → Type 0
Fails OutOfMemory read = Unit {0}
Fails (Refused e) read = read ≡ Err e

-- a result, seen by view, is what reading gives, unless memory ran out
abbrev pub Gives : {X Y : Type 0} → (X → Y) → Result X LayoutError → Result Y LayoutFault → Type 0
Gives view (Ok x) read = read ≡ Ok (view x)
Gives view (Err e) read = Fails e read

-- this fault, unless memory ran out
abbrev pub IsRefused : {X : Type 0} → Result X LayoutError → LayoutFault → Type 0
IsRefused result fault = (result ≡ Err (Refused fault)) ⊎ (result ≡ Err OutOfMemory)
