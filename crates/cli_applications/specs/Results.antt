-- What reading a manifest gives, where memory may run out.
use Rattle.std.specs.Prelude.{◌≡◌, ℕ, Result, Ok, Err}
use Rattle.cli_applications.specs.declared.fault.ManifestFault.{ManifestFault}
use Rattle.cli_applications.specs.declared.fault.ManifestError.{ManifestError}
use Rattle.cli_applications.specs.declared.fault.ManifestError.TheVariants.{OutOfMemory, Refused}
use Rattle.cli_applications.specs.Fault as fault

-- a fault is one of the screen of this number
abbrev pub in_screen : {A : Type 0} → ℕ → Result A ManifestFault → Result A ManifestFault
in_screen n (Ok x) = Ok x
in_screen n (Err e) = Err (fault.in_screen n e)

-- an error is what reading gives, unless memory ran out
abbrev pub Fails : {Y : Type 0} → ManifestError → Result Y ManifestFault → Type 0
Fails OutOfMemory read = Unit {0}
Fails (Refused e) read = read ≡ Err e

-- a result, seen by view, is what reading gives, unless memory ran out
abbrev pub Gives : {X Y : Type 0} → (X → Y) → Result X ManifestError → Result Y ManifestFault → Type 0
Gives view (Ok x) read = read ≡ Ok (view x)
Gives view (Err e) read = Fails e read
