-- What a call gives, as the program holds it.
use Rattle.std.specs.Prelude.{◌≡◌, Result, Ok, Err}
use Rattle.bms_source.specs.declared.refusal.SourceError.{SourceError}
use Rattle.bms_source.specs.declared.refusal.SourceError.TheVariants.{OutOfMemory, Refused}
use Rattle.bms_source.specs.Told.{Told}

abbrev pub Fails : {Y : Type 0} → SourceError → Result Y Told → Type 0
Fails OutOfMemory due = Unit {0}
Fails (Refused e) due = due ≡ Err e

-- a result, seen by view, is what is due, unless memory ran out
abbrev pub Gives : {X Y : Type 0} → (X → Y) → Result X SourceError → Result Y Told → Type 0
Gives view (Ok x) due = due ≡ Ok (view x)
Gives view (Err e) due = Fails e due
